-- How tasks end by the rows of a certificate.
use Rattle.tpl_model.specs.declared.rule_set.RuleSet.{RuleSet}
use Rattle.std.proofs.Common.{◌≡◌, ℕ, inl, inr, Bool, true, Some, List, [], ◌∷◌, refl, sym, subst}
use Rattle.std.proofs.lemmas.Bool.{or_left, or_right}
use Rattle.tpl_model.specs.declared.finals.Final.{Final}
use Rattle.tpl_model.specs.declared.finals.Final.TheVariants.{RanToCompletion, Canceled, Faulted}
use Rattle.tpl_model.specs.declared.finals.Finals.{Finals}
use Rattle.tpl_model.specs.declared.rule_set.RuleSet.TheVariants.{WithoutTokens, WithTokens}
use Rattle.tpl_model.specs.Finals.{has}
use Rattle.tpl_model.specs.Graph.{TaskGraph}
use Rattle.tpl_model.specs.declared.event.Event.{Event}
use Rattle.tpl_model.specs.Rules.{final, Run}
use Rattle.tpl_model.specs.Valid.{IsGraph}
use Rattle.tpl_model.specs.Claims.{Claim}
use Rattle.tpl_model.specs.Certificate.{row, Tree, Accepts, Row, plain, OnInput, OnEnd, OnWinner, RowsLeaf, LeastLeaf}
use Rattle.tpl_model.specs.TokenRules.{assumed_with_tokens}
use Rattle.tpl_laws.specs.TokenTrees.{AcceptsWithTokens, all_written, written}
use Rattle.tpl_laws.specs.LeastRows.{ends_where}
use Rattle.tpl_laws.specs.SoundnessWithTokens.{HasRows, SomeLeafIsTrue, SomeTokenLeafIsTrue}
use Rattle.tpl_draw.specs.Endings.{either, tree_ends, ends, IsSomeTaken, EndingsAreTrue}

-- a member of one set is one of either
in_first : (a b : Finals) (f : Final) → has a f ≡ true → has (either a b) f ≡ true
in_first a b RanToCompletion e = or_left a.ran b.ran e
in_first a b Canceled e = or_left a.canceled b.canceled e
in_first a b Faulted e = or_left a.faulted b.faulted e

in_second : (a b : Finals) (f : Final) → has b f ≡ true → has (either a b) f ≡ true
in_second a b RanToCompletion e = or_right a.ran b.ran e
in_second a b Canceled e = or_right a.canceled b.canceled e
in_second a b Faulted e = or_right a.faulted b.faulted e

-- each way to end is one of all
in_each : (f : Final) → has (ends_where (λ g. true)) f ≡ true
in_each RanToCompletion = refl
in_each Canceled = refl
in_each Faulted = refl

-- what a leaf's row says, its tree says
rows_in_tree : (tree : Tree) (rows : List Row) (t : ℕ) (f : Final) → HasRows tree rows → has (row (plain rows) t).ends f ≡ true → has (tree_ends tree t) f ≡ true
rows_in_tree (OnInput i a b) rows t f (inl w) e = in_first (tree_ends a t) (tree_ends b t) f (rows_in_tree a rows t f w e)
rows_in_tree (OnInput i a b) rows t f (inr w) e = in_second (tree_ends a t) (tree_ends b t) f (rows_in_tree b rows t f w e)
rows_in_tree (OnEnd s a b c) rows t f (inl w) e =
    in_first (tree_ends a t) (either (tree_ends b t) (tree_ends c t)) f (rows_in_tree a rows t f w e)
rows_in_tree (OnEnd s a b c) rows t f (inr (inl w)) e =
    in_second (tree_ends a t) (either (tree_ends b t) (tree_ends c t)) f
    (in_first (tree_ends b t) (tree_ends c t) f (rows_in_tree b rows t f w e))
rows_in_tree (OnEnd s a b c) rows t f (inr (inr w)) e =
    in_second (tree_ends a t) (either (tree_ends b t) (tree_ends c t)) f
    (in_second (tree_ends b t) (tree_ends c t) f (rows_in_tree c rows t f w e))
rows_in_tree (OnWinner n x a b) rows t f (inl w) e = in_first (tree_ends a t) (tree_ends b t) f (rows_in_tree a rows t f w e)
rows_in_tree (OnWinner n x a b) rows t f (inr w) e = in_second (tree_ends a t) (tree_ends b t) f (rows_in_tree b rows t f w e)
rows_in_tree (RowsLeaf leaf) rows t f w e = subst (λ z. has (row (plain z) t).ends f ≡ true) (sym w) e
rows_in_tree LeastLeaf rows t f w e = in_each f

-- a task ends as the trees say in the runs of which what may be taken as given for one of the claims is true
abbrev EndsAre : RuleSet → TaskGraph → List Claim → List Tree → Type 0
EndsAre rules g claims trees =
    (v : List Bool) (h : List Event) → Run g v h → IsSomeTaken rules g v h claims
    → (t : ℕ) (f : Final) → final g v h t ≡ Some f → has (ends trees t) f ≡ true

-- by the rules without tokens
ends_without_tokens : SomeLeafIsTrue → (g : TaskGraph) (claims : List Claim) (trees : List Tree) → IsGraph g → Accepts g claims trees → EndsAre WithoutTokens g claims trees
ends_without_tokens some_leaf g [] [] valid acc v h run given t f e = absurd given
ends_without_tokens some_leaf g (claim ∷ claims) [] valid acc v h run given t f e = absurd acc
ends_without_tokens some_leaf g [] (tree ∷ trees) valid acc v h run given t f e = absurd acc
ends_without_tokens some_leaf g (claim ∷ claims) (tree ∷ trees) valid acc v h run (inl given) t f e =
    let w = some_leaf g claim tree v h valid acc.0 run given in
    in_first (tree_ends tree t) (ends trees t) f (rows_in_tree tree w.0 t f w.1 (w.2.ends t f e))
ends_without_tokens some_leaf g (claim ∷ claims) (tree ∷ trees) valid acc v h run (inr given) t f e =
    in_second (tree_ends tree t) (ends trees t) f (ends_without_tokens some_leaf g claims trees valid acc.1 v h run given t f e)

-- by those with tokens
token_ends : SomeTokenLeafIsTrue → (g : TaskGraph) (claims : List Claim) (trees : List Tree) → IsGraph g → AcceptsWithTokens g claims trees → EndsAre WithTokens g claims (all_written g claims trees)
token_ends some_leaf g [] [] valid acc v h run given t f e = absurd given
token_ends some_leaf g (claim ∷ claims) [] valid acc v h run given t f e = absurd acc
token_ends some_leaf g [] (tree ∷ trees) valid acc v h run given t f e = absurd acc
token_ends some_leaf g (claim ∷ claims) (tree ∷ trees) valid acc v h run (inl given) t f e =
    let w = some_leaf g claim tree v h valid acc.0 run given in
    let whole = written g claim.body (assumed_with_tokens g claim) tree in
    in_first (tree_ends whole t) (ends (all_written g claims trees) t) f (rows_in_tree whole w.0 t f w.1 (w.2.ends t f e))
token_ends some_leaf g (claim ∷ claims) (tree ∷ trees) valid acc v h run (inr given) t f e =
    in_second (tree_ends (written g claim.body (assumed_with_tokens g claim) tree) t) (ends (all_written g claims trees) t) f
    (token_ends some_leaf g claims trees valid acc.1 v h run given t f e)

pub endings_lem : SomeLeafIsTrue → SomeTokenLeafIsTrue → EndingsAreTrue
endings_lem some_leaf some_token_leaf WithoutTokens g claims certificate valid acc v h run given t f e = ends_without_tokens some_leaf g claims certificate valid acc v h run given t f e
endings_lem some_leaf some_token_leaf WithTokens g claims certificate valid acc v h run given t f e = token_ends some_token_leaf g claims certificate valid acc v h run given t f e
