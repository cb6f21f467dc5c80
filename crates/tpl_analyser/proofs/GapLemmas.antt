-- Trees for the claims, one after another.
use Rattle.std.proofs.Common.{ℕ, suc, ◌+◌, ◌<◌, ◌≤◌, ◌++◌, List, [], ◌∷◌, take, drop, length, sym, ap, ◌∙◌, subst, slice_index_or, arith}
use Rattle.std.specs.List.{All}
use Rattle.std.proofs.lemmas.List.{take_more, take_all, take-append-drop, length-take-le}
use Rattle.std.proofs.lemmas.List.Elements.{All-push, All-nil}
use Rattle.std.proofs.Math.Seq.{drop-cons}
use Rattle.tpl_model.specs.Graph.{TaskGraph}
use Rattle.tpl_model.specs.Claims.{Claim}
use Rattle.tpl_model.specs.Certificate.{Tree, AcceptsTree, Accepts, assumed_for}
use Rattle.tpl_model.specs.TokenRules.{assumed_with_tokens}
use Rattle.tpl_model.specs.declared.rule_set.RuleSet.{RuleSet}
use Rattle.tpl_model.specs.declared.rule_set.RuleSet.TheVariants.{WithoutTokens, WithTokens}
use Rattle.tpl_laws.specs.ByRules.{AcceptsBy}
use Rattle.tpl_laws.specs.TokenTrees.{AcceptsTokenTree, AcceptsWithTokens}
use Rattle.tpl_trees.specs.Heights.{height, HasShortChains, IsWithinLimits}
use Rattle.tpl_analyser.specs.declared.form.Form.{Form}
use Rattle.tpl_analyser.specs.FoundFor.{IsFoundFor}
use Rattle.tpl_analyser.specs.Gaps.{IsFirstWithout}
use Rattle.tpl_analyser.specs.Slim.{IsOfForm, IsCertificateOf, HasLeavesOf, IsOfFormBy}

-- trees for the first i claims
pub record FoundSoFar (rules : RuleSet) (g : TaskGraph) (claims : List Claim) (form : Form) (depth i : ℕ) (trees : List Tree) : Type 0 where
  pub accepted : AcceptsBy rules g (take i claims) trees
  pub splits : All (λ tree. height tree ≤ depth) trees
  pub limits : All IsWithinLimits trees
  pub of_form : IsOfFormBy rules form (take i claims) trees

none_accepted : (rules : RuleSet) (g : TaskGraph) → AcceptsBy rules g [] []
none_accepted WithoutTokens g = tt
none_accepted WithTokens g = tt

none_of_form : (rules : RuleSet) (form : Form) → IsOfFormBy rules form [] []
none_of_form WithoutTokens form = tt
none_of_form WithTokens form = All-nil (HasLeavesOf form)

pub none_found : (rules : RuleSet) (g : TaskGraph) (claims : List Claim) (form : Form) (depth : ℕ) → FoundSoFar rules g claims form depth 0 []
none_found rules g claims form depth = record {
  accepted = none_accepted rules g;
  splits = All-nil (λ (tree : Tree). height tree ≤ depth);
  limits = All-nil IsWithinLimits;
  of_form = none_of_form rules form;
}

accepts_more : (g : TaskGraph) (claims : List Claim) (trees : List Tree) (claim : Claim) (tree : Tree) → Accepts g claims trees → AcceptsTree g claim.body (assumed_for WithoutTokens g claim) tree → Accepts g (claims ++ claim ∷ []) (trees ++ tree ∷ [])
accepts_more g [] [] claim tree a h = (h, tt)
accepts_more g [] (t ∷ trees) claim tree a h = absurd a
accepts_more g (c ∷ claims) [] claim tree a h = absurd a
accepts_more g (c ∷ claims) (t ∷ trees) claim tree a h = (a.0, accepts_more g claims trees claim tree a.1 h)

more_with_tokens : (g : TaskGraph) (claims : List Claim) (trees : List Tree) (claim : Claim) (tree : Tree) → AcceptsWithTokens g claims trees → AcceptsTokenTree g claim.body (assumed_with_tokens g claim) tree → AcceptsWithTokens g (claims ++ claim ∷ []) (trees ++ tree ∷ [])
more_with_tokens g [] [] claim tree a h = (h, tt)
more_with_tokens g [] (t ∷ trees) claim tree a h = absurd a
more_with_tokens g (c ∷ claims) [] claim tree a h = absurd a
more_with_tokens g (c ∷ claims) (t ∷ trees) claim tree a h = (a.0, more_with_tokens g claims trees claim tree a.1 h)

forms_more : (form : Form) (claims : List Claim) (trees : List Tree) (claim : Claim) (tree : Tree) → IsCertificateOf form claims trees → IsOfForm form claim.body tree → IsCertificateOf form (claims ++ claim ∷ []) (trees ++ tree ∷ [])
forms_more form [] [] claim tree a h = (h, tt)
forms_more form [] (t ∷ trees) claim tree a h = absurd a
forms_more form (c ∷ claims) [] claim tree a h = absurd a
forms_more form (c ∷ claims) (t ∷ trees) claim tree a h = (a.0, forms_more form claims trees claim tree a.1 h)

-- what holds of a tree that is found for a claim
module _ (g : TaskGraph) (claim : Claim) (form : Form) (n : ℕ) (tree : Tree) where
  accepted_by : (rules : RuleSet) (claims : List Claim) (trees : List Tree) → AcceptsBy rules g claims trees → IsFoundFor rules g claim form n tree → AcceptsBy rules g (claims ++ claim ∷ []) (trees ++ tree ∷ [])
  accepted_by WithoutTokens claims trees a f = accepts_more g claims trees claim tree a f.accepted
  accepted_by WithTokens claims trees a f = more_with_tokens g claims trees claim tree a f.accepted

  of_form_by : (rules : RuleSet) (claims : List Claim) (trees : List Tree) → IsOfFormBy rules form claims trees → IsFoundFor rules g claim form n tree → IsOfFormBy rules form (claims ++ claim ∷ []) (trees ++ tree ∷ [])
  of_form_by WithoutTokens claims trees a f = forms_more form claims trees claim tree a f.of_form
  of_form_by WithTokens claims trees a f = All-push (HasLeavesOf form) trees tree a f.of_form

  splits_of : (rules : RuleSet) → IsFoundFor rules g claim form n tree → height tree ≤ n
  splits_of WithoutTokens f = f.splits
  splits_of WithTokens f = f.splits

  chains_of : (rules : RuleSet) → IsFoundFor rules g claim form n tree → HasShortChains tree
  chains_of WithoutTokens f = f.chains
  chains_of WithTokens f = f.chains

module _ (rules : RuleSet) (g : TaskGraph) (claims : List Claim) (form : Form) (depth i : ℕ) (trees : List Tree) (d : Claim) (lt : i < length claims) (so_far : FoundSoFar rules g claims form depth i trees) where
  pub one_more : (tree : Tree) → depth ≤ 6 → IsFoundFor rules g (slice_index_or claims i d) form depth tree → FoundSoFar rules g claims form depth (i + 1) (trees ++ tree ∷ [])
  one_more tree le found =
      let claim = slice_index_or claims i d in
      let low = splits_of g claim form depth tree rules found in
      record {
        accepted = subst (λ (cs : List Claim). AcceptsBy rules g cs (trees ++ tree ∷ [])) (sym (take_more claims i d lt)) (accepted_by g claim form depth tree rules (take i claims) trees so_far.accepted found);
        splits = All-push (λ (t : Tree). height t ≤ depth) trees tree so_far.splits low;
        limits = All-push IsWithinLimits trees tree so_far.limits (omega arith, chains_of g claim form depth tree rules found);
        of_form = subst (λ (cs : List Claim). IsOfFormBy rules form cs (trees ++ tree ∷ [])) (sym (take_more claims i d lt)) (of_form_by g claim form depth tree rules (take i claims) trees so_far.of_form found);
      }

  pub first_without : IsFirstWithout rules g claims depth (i + 1)
  first_without = record {
    before = take i claims;
    claim = slice_index_or claims i d;
    behind = drop (suc i) claims;
    claims_are = sym (take-append-drop i claims) ∙ ap (λ (cs : List Claim). take i claims ++ cs) (drop-cons claims i d lt);
    at = let short : i ≤ length claims = omega arith in ap (λ n. n + 1) (sym (length-take-le i claims short));
    trees = trees;
    accepted = so_far.accepted;
    splits = so_far.splits;
  }

pub all_found : (rules : RuleSet) (g : TaskGraph) (claims : List Claim) (form : Form) (depth i : ℕ) (trees : List Tree) → length claims ≤ i → FoundSoFar rules g claims form depth i trees → AcceptsBy rules g claims trees
all_found rules g claims form depth i trees le so_far = subst (λ (cs : List Claim). AcceptsBy rules g cs trees) (take_all i claims le) so_far.accepted

pub all_of_form : (rules : RuleSet) (g : TaskGraph) (claims : List Claim) (form : Form) (depth i : ℕ) (trees : List Tree) → length claims ≤ i → FoundSoFar rules g claims form depth i trees → IsOfFormBy rules form claims trees
all_of_form rules g claims form depth i trees le so_far = subst (λ (cs : List Claim). IsOfFormBy rules form cs trees) (take_all i claims le) so_far.of_form
