-- How the tasks may end by the rows of a certificate.
use Rattle.std.specs.Prelude.{◌≡◌, ℕ, ◌||◌, ◌⊎◌, Bool, true, false, Some, List, [], ◌∷◌}
use Rattle.tpl_model.specs.declared.finals.Final.{Final}
use Rattle.tpl_model.specs.declared.finals.Finals.{Finals}
use Rattle.tpl_model.specs.Finals.{has}
use Rattle.tpl_model.specs.Graph.{TaskGraph}
use Rattle.tpl_model.specs.declared.event.Event.{Event}
use Rattle.tpl_model.specs.declared.rule_set.RuleSet.{RuleSet}
use Rattle.tpl_model.specs.Rules.{final, Run}
use Rattle.tpl_model.specs.Valid.{IsGraph}
use Rattle.tpl_model.specs.Claims.{Claim, IsGiven}
use Rattle.tpl_model.specs.Certificate.{row, taken, plain, Tree, OnInput, OnEnd, OnWinner, RowsLeaf, LeastLeaf}
use Rattle.tpl_laws.specs.ByRules.{AcceptsBy, written_by}
use Rattle.tpl_laws.specs.LeastRows.{ends_where}
use Rattle.tpl_draw.specs.Below.{below}

-- no way to end
abbrev pub no_ends : Finals
no_ends = record { ran = false; canceled = false; faulted = false }

-- the members of either set
abbrev pub either : Finals → Finals → Finals
either a b = record { ran = a.ran || b.ran; canceled = a.canceled || b.canceled; faulted = a.faulted || b.faulted }

-- how a task may end by the rows of one leaf of the tree or another; a leaf without rows rules nothing out
abbrev pub tree_ends : Tree → ℕ → Finals
tree_ends (OnInput i on_true on_false) t = either (tree_ends on_true t) (tree_ends on_false t)
tree_ends (OnEnd s ran canceled faulted) t = either (tree_ends ran t) (either (tree_ends canceled t) (tree_ends faulted t))
tree_ends (OnWinner n x on_yes on_no) t = either (tree_ends on_yes t) (tree_ends on_no t)
tree_ends (RowsLeaf rows) t = (row (plain rows) t).ends
tree_ends LeastLeaf t = ends_where (λ f. true)

-- how a task may end by one tree or another
abbrev pub ends : List Tree → ℕ → Finals
ends [] t = no_ends
ends (tree ∷ trees) t = either (tree_ends tree t) (ends trees t)

-- the ways to end of each of the first n tasks
abbrev pub each_task : (ℕ → Finals) → ℕ → List Finals
each_task ends n = below (λ t. ends t ∷ []) n

-- the ways that are found are the other ones of each task, and beside them these
abbrev pub JoinsEnds : List Finals → (ℕ → Finals) → List Finals → Type 0
JoinsEnds others ends found = (other : ℕ → Finals) (n : ℕ) → others ≡ each_task other n → found ≡ each_task (λ t. either (ends t) (other t)) n

-- how each of the first n tasks may end by the trees
abbrev pub endings : List Tree → ℕ → List Finals
endings trees n = each_task (ends trees) n

-- what a certificate may take as given for one of the claims is true of a run so far: by the rules with tokens for a claim
-- about a beginning also that the own token isn't requested
abbrev pub IsSomeTaken : RuleSet → TaskGraph → List Bool → List Event → List Claim → Type 0
IsSomeTaken rules g v h [] = ⊥
IsSomeTaken rules g v h (claim ∷ claims) = IsGiven g v h (taken rules g claim) ⊎ IsSomeTaken rules g v h claims

-- where a certificate is accepted by the rules, a task ends as one of its rows says, written or left out, in each run of
-- which what may be taken as given for one of the claims is true
abbrev pub EndingsAreTrue : Type 0
EndingsAreTrue =
    (rules : RuleSet) (g : TaskGraph) (claims : List Claim) (certificate : List Tree) → IsGraph g → AcceptsBy rules g claims certificate
    → (v : List Bool) (h : List Event) → Run g v h → IsSomeTaken rules g v h claims
    → (t : ℕ) (f : Final) → final g v h t ≡ Some f → has (ends (written_by rules g claims certificate) t) f ≡ true
