-- The least rows are the same for all properties that speak of no exception.
use Rattle.std.proofs.Common.{◌≡◌, ◌&&◌, ◌↔◌, ◌∙◌, ◌∷◌, ◌++◌, [], Bool, true, false, Option, Some, None, IsTrue, length, refl, subst, sym}
use Rattle.tpl_model.proofs.Truths.{true_false}
use Rattle.tpl_model.specs.declared.ids.TaskId.{TaskId}
use Rattle.tpl_model.specs.declared.claim.Property.{Property}
use Rattle.tpl_model.specs.declared.claim.Property.TheVariants.{Final as EndsIn, After, Observed, Never, Excludes, Runs}
use Rattle.tpl_model.specs.Graph.{TaskGraph}
use Rattle.tpl_model.specs.declared.rule_set.RuleSet.TheVariants.{WithTokens}
use Rattle.tpl_model.specs.Valid.{IsGraph}
use Rattle.tpl_model.specs.Claims.{Claim}
use Rattle.tpl_model.specs.Certificate.{assumed, own_quiet, taken, LeastLeaf}
use Rattle.tpl_model.specs.TokenRules.{LeafAssumed, narrowed, assumed_with_tokens}
use Rattle.tpl_laws.specs.Verdict.{LeafFault, ProvesNot, or_else, unless}
use Rattle.tpl_laws.specs.TokenTests.{TokenLeafIsRight, token_first_broken, token_proves}
use Rattle.tpl_laws.specs.TokenTrees.{AcceptsRows, AcceptsWithTokens}
use Rattle.tpl_laws.specs.LeastRows.{least_rows}
use Rattle.tpl_token_leaf.specs.Leaf.{leaf_assumed}
use Rattle.tpl_token_check.specs.declared.unsplit.Settled.{Settled}
use Rattle.tpl_token_check.specs.declared.unsplit.Unsplit.{Unsplit}
use Rattle.tpl_token_check.specs.Rows.{AreRows}
use Rattle.tpl_token_check.specs.Unsplit.{AreSettled, HasNoChain, IsUnsplit, graph_under}

same_rows : (g : TaskGraph) (l : LeafAssumed) (x : TaskId) (p : Property TaskId) → HasNoChain p → least_rows g l (Never x) ≡ least_rows g l p
same_rows g l x (EndsIn t ends) h = refl
same_rows g l x (After a b) h = refl
same_rows g l x (Observed t) h = absurd h
same_rows g l x (Never t) h = refl
same_rows g l x (Excludes a b) h = refl
same_rows g l x (Runs t) h = refl

pub settled_for : (g : TaskGraph) (l : LeafAssumed) (x : TaskId) (p : Property TaskId) (s : Settled) → HasNoChain p → AreSettled g l (Never x) s → AreSettled g l p s
settled_for g l x p s h a = record {
  rows = subst (λ rs. AreRows g rs s.rows) (same_rows g l x p h) a.rows;
  closed = subst (λ rs. IsTrue s.is_closed ↔ (token_first_broken g l rs 0 (length g.tasks) ≡ None)) (same_rows g l x p h) a.closed;
}

pub no_some : {A B : Type 0} (x : A) → Some x ≡ None → B
no_some x e = absurd (cc)

both : (fault : Option LeafFault) (closed proved : Bool) → IsTrue closed ↔ (fault ≡ None) → IsTrue (closed && proved) ↔ (or_else fault (unless proved ProvesNot None) ≡ None)
both None true true h = (λ e. refl, λ e. refl)
both None true false h = (λ e. true_false (sym e), λ e. no_some ProvesNot e)
both None false proved h = (λ e. true_false (sym e), λ e. true_false (sym (h.1 refl)))
both (Some x) true proved h = (λ e. no_some x (h.0 refl), λ e. no_some x e)
both (Some x) false proved h = (λ e. true_false (sym e), λ e. no_some x e)

pub accepts_settled : (g : TaskGraph) (l : LeafAssumed) (p : Property TaskId) (s : Settled) (proved : Bool) → IsGraph g → TokenLeafIsRight → AreSettled g l p s → proved ≡ token_proves g l (least_rows g l p) p
    → IsTrue (s.is_closed && proved) ↔ AcceptsRows g p l (least_rows g l p)
accepts_settled g l p s proved valid right a is =
    let rows = least_rows g l p in
    let here = right g p l rows valid in
    let so = subst (λ b. IsTrue (s.is_closed && proved) ↔ (or_else (token_first_broken g l rows 0 (length g.tasks)) (unless b ProvesNot None) ≡ None)) is (both (token_first_broken g l rows 0 (length g.tasks)) s.is_closed proved a.closed) in
    (λ e. here.0 (so.0 e), λ e. so.1 (here.1 e))

-- the claim takes what is given for the tree, and no token besides
pub claim_accepted : (u : Unsplit) (claim : Claim) (proved : Bool) → IsGraph (graph_under u) → TokenLeafIsRight → IsUnsplit u → HasNoChain claim.body → own_quiet (graph_under u) claim.body ≡ [] → claim.given ≡ u.given.now
    → proved ≡ token_proves (graph_under u) (leaf_assumed u.narrowed []) (least_rows (graph_under u) (leaf_assumed u.narrowed []) claim.body) claim.body
    → IsTrue (u.settled.is_closed && proved) ↔ AcceptsWithTokens (graph_under u) (claim ∷ []) (LeastLeaf ∷ [])
claim_accepted u claim proved valid right is chain own given so =
    let g = graph_under u in
    let l = leaf_assumed u.narrowed [] in
    let alike : u.given.now ≡ taken WithTokens g claim = λ i. sym own i ++ sym given i in
    let same : l ≡ narrowed g (assumed_with_tokens g claim) = is.narrowed ∙ (λ i. narrowed g (record { assumed = assumed g (alike i); wins = λ n x. true })) in
    let there = subst (λ (k : LeafAssumed). IsTrue (u.settled.is_closed && proved) ↔ AcceptsRows g claim.body k (least_rows g k claim.body)) same (accepts_settled g l claim.body u.settled proved valid right (is.settled claim.body chain) so) in
    (λ e. (there.0 e, tt), λ a. there.1 a.0)
