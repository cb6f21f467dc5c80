-- From what is certified to what is answered.
use Rattle.std.proofs.Common.{◌≡◌, ℕ, ◌+◌, ◌<◌, ◌≤◌, ◌++◌, Bool, true, false, is_some, Option, Some, None, List, [], ◌∷◌, length, map, take, subst, sym, refl, ap, arith}
use Rattle.std.specs.Prelude.{slice_index_or}
use Rattle.std.specs.List.{All, AllZip}
use Rattle.tpl_model.specs.declared.ids.TaskId.{TaskId}
use Rattle.tpl_model.specs.declared.finals.Final.{Final}
use Rattle.tpl_model.specs.declared.finals.Final.TheVariants.{RanToCompletion, Canceled, Faulted}
use Rattle.tpl_model.specs.declared.finals.Finals.{Finals}
use Rattle.tpl_model.specs.Finals.{has}
use Rattle.tpl_model.specs.declared.claim.Given.{Given}
use Rattle.tpl_model.specs.declared.claim.Property.{Property}
use Rattle.tpl_model.specs.declared.claim.Property.TheVariants.{Final as EndsIn}
use Rattle.tpl_model.specs.Graph.{TaskGraph, TaskKind, Root, Child, Continues, WhenAll, WhenAny, is_task, kind}
use Rattle.tpl_graph.specs.declared.row.Kind.TheVariants as child
use Rattle.tpl_graph.specs.Rows.{kind_of}
use Rattle.tpl_model.specs.Facts.{Ending, ending, started, final_in}
use Rattle.tpl_model.specs.Rules.{to_end}
use Rattle.tpl_model.specs.Valid.{IsGraph}
use Rattle.tpl_model.specs.Claims.{Claim}
use Rattle.tpl_model.specs.declared.rule_set.RuleSet.{RuleSet}
use Rattle.tpl_model.specs.declared.rule_set.RuleSet.TheVariants.{WithoutTokens, WithTokens}
use Rattle.tpl_model.specs.Certificate.{Tree, Accepts, LeastLeaf}
use Rattle.tpl_laws.specs.ByRules.{AcceptsBy, SoundByRules}
use Rattle.tpl_laws.specs.TokenTrees.{AcceptsWithTokens}
use Rattle.tpl_trees.specs.Heights.{height}
use Rattle.tpl_verify.specs.declared.verdict.Verdict.{Verdict}
use Rattle.std.proofs.lemmas.List.{take_more}
use Rattle.std.proofs.lemmas.List.Elements.{All-push}
use Rattle.tpl_verify.specs.Verdicts.{HasNoEnd, HoldsAlways, IsCertified, under, IsNeverKept, IsVerdict, KeepsTo, no_end}

-- an accepted certificate of one claim has one tree
one_plain : (g : TaskGraph) (claim : Claim) (trees : List Tree) → Accepts g (claim ∷ []) trees → length trees ≡ 1
one_plain g claim [] accepted = absurd accepted
one_plain g claim (tree ∷ []) accepted = refl
one_plain g claim (tree ∷ other ∷ rest) accepted = absurd accepted.1

one_with_tokens : (g : TaskGraph) (claim : Claim) (trees : List Tree) → AcceptsWithTokens g (claim ∷ []) trees → length trees ≡ 1
one_with_tokens g claim [] accepted = absurd accepted
one_with_tokens g claim (tree ∷ []) accepted = refl
one_with_tokens g claim (tree ∷ other ∷ rest) accepted = absurd accepted.1

one_tree-of : (rules : RuleSet) (g : TaskGraph) (claim : Claim) (trees : List Tree) → AcceptsBy rules g (claim ∷ []) trees → length trees ≡ 1
one_tree-of WithoutTokens g claim trees accepted = one_plain g claim trees accepted
one_tree-of WithTokens g claim trees accepted = one_with_tokens g claim trees accepted

-- how many splits the only tree has
only_height : (trees : List Tree) (n : ℕ) → length trees ≡ 1 → ((tree : Tree) → trees ≡ tree ∷ [] → n ≡ height tree) → map height trees ≡ n ∷ []
only_height [] n one splits = absurd (omega arith)
only_height (tree ∷ []) n one splits = ap (λ (m : ℕ). m ∷ []) (sym (splits tree refl))
only_height (tree ∷ other ∷ rest) n one splits = absurd (omega arith)

-- what is accepted for a list of one claim is accepted for the claim
for_one : (rules : RuleSet) (g : TaskGraph) (claim : Claim) (claims : List Claim) (trees : List Tree) → claims ≡ claim ∷ [] → AcceptsBy rules g claims trees → AcceptsBy rules g (claim ∷ []) trees
for_one rules g claim claims trees e accepted = subst (λ (z : List Claim). AcceptsBy rules g z trees) e accepted

pub certified : (rules : RuleSet) (g : TaskGraph) (claim : Claim) (claims : List Claim) (trees : List Tree) (n : ℕ) → claims ≡ claim ∷ [] → AcceptsBy rules g claims trees → ((tree : Tree) → trees ≡ tree ∷ [] → n ≡ height tree) → IsCertified rules g claim trees n
certified rules g claim claims trees n e accepted splits =
    let one = for_one rules g claim claims trees e accepted in
    record { accepted = one; splits = only_height trees n (one_tree-of rules g claim trees one) splits }

pub one_tree : (rules : RuleSet) (g : TaskGraph) (claim : Claim) (claims : List Claim) (trees : List Tree) → claims ≡ claim ∷ [] → AcceptsBy rules g claims trees → length trees ≡ 1
one_tree rules g claim claims trees e accepted = one_tree-of rules g claim trees (for_one rules g claim claims trees e accepted)

-- the only tree has at most as many splits as each may have
pub shallow : (trees : List Tree) (n depth : ℕ) → length trees ≡ 1 → ((tree : Tree) → trees ≡ tree ∷ [] → n ≡ height tree) → All (λ tree. height tree ≤ depth) trees → n ≤ depth
shallow [] n depth one splits all = absurd (omega arith)
shallow (tree ∷ []) n depth one splits all =
    let e = splits tree refl in
    let le : height tree ≤ depth = all 0 tree (omega arith) in
    omega (arith, e, le)
shallow (tree ∷ other ∷ rest) n depth one splits all = absurd (omega arith)

-- the same under the same given
pub likewise : (P : Claim → Type 0) (other : Claim) (given : List Given) (body : Property TaskId) → other.given ≡ given → other.body ≡ body → P other → P (under given body)
likewise P other given body e f so =
    subst (λ (x : List Given). P (under x body)) e (subst (λ (p : Property TaskId). P (under other.given p)) f so)

-- its claim holds in each run
pub always : (rules : RuleSet) (g : TaskGraph) (claim : Claim) (claims : List Claim) (trees : List Tree) → SoundByRules → IsGraph g → claims ≡ claim ∷ [] → AcceptsBy rules g claims trees → HoldsAlways g claim
always rules g claim claims trees sound is e accepted v h run = (sound rules g (claim ∷ []) trees is (for_one rules g claim claims trees e accepted) v h run).0

-- the tree without a split is accepted for the claim: it is certified
pub at_once : (rules : RuleSet) (g : TaskGraph) (claim : Claim) → rules ≡ WithTokens → AcceptsWithTokens g (claim ∷ []) (LeastLeaf ∷ []) → IsCertified rules g claim (LeastLeaf ∷ []) 0
at_once rules g claim e accepted = subst (λ r. IsCertified r g claim (LeastLeaf ∷ []) 0) (sym e) (record { accepted = accepted; splits = refl })

-- it holds in each run
pub always_at_once : (g : TaskGraph) (claim : Claim) → SoundByRules → IsGraph g → AcceptsWithTokens g (claim ∷ []) (LeastLeaf ∷ []) → HoldsAlways g claim
always_at_once g claim sound is accepted v h run = (sound WithTokens g (claim ∷ []) (LeastLeaf ∷ []) is accepted v h run).0

no_member : (f : Final) → has no_end f ≡ true → ⊥
no_member RanToCompletion e = absurd (cc)
no_member Canceled e = absurd (cc)
no_member Faulted e = absurd (cc)

not_ended : (o : Option Ending) → is_some o ≡ true → ((f : Final) → final_in o ≡ Some f → has no_end f ≡ true) → ⊥
not_ended None e none = absurd (cc)
not_ended (Some ending) e none = no_member ending.final (none ending.final refl)

-- a task that is no child has ended in each complete run
pub ends_always : (k : TaskKind) → (kind_of k ≡ child.Child → ⊥) → (started : Bool) → to_end k started ≡ true
ends_always Root other started = refl
ends_always Child other started = absurd (other refl)
ends_always (Continues a) other started = refl
ends_always (WhenAll args) other started = refl
ends_always (WhenAny args) other started = refl

-- where a task that each complete run has ended never ends, there is no complete run
pub never_kept : (g : TaskGraph) (given : List Given) (t : TaskId) → is_task g t.0 → ((started : Bool) → to_end (kind g t.0) started ≡ true) → HasNoEnd g given t → IsNeverKept g given
never_kept g given t is must none v h run complete kept =
    not_ended (ending g v h t.0) (complete t.0 is (must (started g v h t.0))) (none v h run kept)

-- one pair more
pub zip_snoc : {A B : Type 0} (R : A → B → Type 0) (xs : List A) (ys : List B) (x : A) (y : B) → AllZip R xs ys → R x y → AllZip R (xs ++ x ∷ []) (ys ++ y ∷ [])
zip_snoc R [] [] x y all one = (one, tt)
zip_snoc R [] (b ∷ ys) x y all one = absurd all
zip_snoc R (a ∷ xs) [] x y all one = absurd all
zip_snoc R (a ∷ xs) (b ∷ ys) x y all one = (all.0, zip_snoc R xs ys x y all.1 one)

-- the verdicts on one claim more
pub verdict_more : (rules : RuleSet) (g : TaskGraph) (claims : List Claim) (verdicts more : List Verdict) (i : ℕ) (claim : Claim) (v : Verdict) → i < length claims → claim ≡ slice_index_or claims i claim → AllZip (IsVerdict rules g) (take i claims) verdicts → IsVerdict rules g claim v → more ≡ verdicts ++ v ∷ [] → AllZip (IsVerdict rules g) (take (i + 1) claims) more
verdict_more rules g claims verdicts more i claim v lt is so_far one pushed =
    subst (λ (z : List Verdict). AllZip (IsVerdict rules g) (take (i + 1) claims) z) (sym pushed)
    (subst (λ (z : List Claim). AllZip (IsVerdict rules g) z (verdicts ++ v ∷ [])) (sym (take_more claims i claim lt))
    (zip_snoc (IsVerdict rules g) (take i claims) verdicts (slice_index_or claims i claim) v so_far (subst (λ (z : Claim). IsVerdict rules g z v) is one)))

-- the verdict on one claim more keeps to these limits
pub within_more : (depth runs : ℕ) (verdicts more : List Verdict) (v : Verdict) → All (KeepsTo depth runs) verdicts → KeepsTo depth runs v → more ≡ verdicts ++ v ∷ [] → All (KeepsTo depth runs) more
within_more depth runs verdicts more v all one pushed =
    subst (λ (z : List Verdict). All (KeepsTo depth runs) z) (sym pushed) (All-push (KeepsTo depth runs) verdicts v all one)
