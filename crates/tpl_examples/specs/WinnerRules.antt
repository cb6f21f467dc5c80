-- Worked leaves on the branches of splits on a winner: a case of each rule that is closed and proves its claim, and ones
-- that aren't.
use Rattle.std.specs.Prelude.{◌≡◌, ℕ, Bool, true, false, Option, Some, None, List, [], ◌∷◌}
use Rattle.tpl_model.specs.declared.finals.Final.TheVariants.{Faulted}
use Rattle.tpl_model.specs.declared.finals.Finals.{Finals}
use Rattle.tpl_model.specs.Options.{not_on}
use Rattle.tpl_model.specs.Statements.{Start, When, Nothing, ◌⨾◌}
use Rattle.tpl_model.specs.Graph.{TaskGraph, Task, Plain}
use Rattle.tpl_model.specs.declared.fault.Rule.TheVariants.{K1, K2, K5, K6}
use Rattle.tpl_model.specs.declared.claim.Given.{Given}
use Rattle.tpl_model.specs.declared.ids.TaskId.{TaskId}
use Rattle.tpl_model.specs.declared.claim.Property.{Property}
use Rattle.tpl_model.specs.Certificate.{PlainRow, Row, Tree, OnInput, OnEnd, OnWinner, RowsLeaf, LeastLeaf}
use Rattle.tpl_model.specs.TokenRules.{winner_split}
use Rattle.tpl_laws.specs.TokenTrees.{AcceptsWithTokens}
use Rattle.tpl_laws.specs.Verdict.{LeafFault, Breaks, ProvesNot}
use Rattle.tpl_laws.specs.TokenTests.{token_leaf_fault}
use Rattle.tpl_examples.specs.Words.{root, child, continues, when_all, when_any, with_token, with_options, graph, with_tokens, returns, only_on_faulted, ran, faulted, ends_in, begins_after, is_observed, given_quiet, claim}
use Rattle.tpl_examples.specs.CertificateWords.{nothing, runs, ends, behind, not_run, throws, observes, stuck}
use Rattle.tpl_examples.specs.TokenRules.{for_claim, fault, plainly}

-- the fault of a leaf on the branch of a split on whether x wins n, if it has one
abbrev pub won : TaskGraph → List Given → Property TaskId → ℕ → ℕ → Bool → List Row → Option LeafFault
won g facts says n x value rows = token_leaf_fault g says (winner_split (for_claim g facts says) n x value) rows

-- one that returns races with one that throws, and where the second wins a child is started
abbrev pub races : TaskGraph
races =
    graph (root returns ∷ root throws ∷ when_any (0 ∷ 1 ∷ []) ∷ continues 2 (When Faulted (Start 4 ⨾ Nothing) Nothing ⨾ Nothing) ∷ child returns ∷ [])

-- the child doesn't begin, or begins when the one that throws is settled, or begins
abbrev pub races_rows : PlainRow → List ℕ → List Row
races_rows last settled =
    plainly (ends ran)
    ∷ plainly (ends faulted)
    ∷ plainly (behind ran settled)
    ∷ plainly (runs ran settled [] [])
    ∷ plainly last
    ∷ []

-- a certificate with a split on who wins shows that the child begins after the one that throws. Without it a leaf fails,
-- whether its rows keep the child from beginning, settle the one that throws or do neither; and each branch needs its own
abbrev pub SplitOnWinner : Type 0
SplitOnWinner =
    (won races [] (begins_after 1 4) 2 0 true (races_rows (not_run nothing) []) ≡ None)
    × (won races [] (begins_after 1 4) 2 0 false (races_rows (runs ran (1 ∷ []) [] []) (1 ∷ [])) ≡ None)
    × (fault races [] (begins_after 1 4) (races_rows (not_run nothing) []) ≡ Some (Breaks 4 K1))
    × (fault races [] (begins_after 1 4) (races_rows (runs ran (1 ∷ []) [] []) (1 ∷ [])) ≡ Some (Breaks 2 K5))
    × (fault races [] (begins_after 1 4) (races_rows (ends ran) []) ≡ Some ProvesNot)
    × (won races [] (begins_after 1 4) 2 0 false (races_rows (not_run nothing) []) ≡ Some (Breaks 4 K1))
    × (won races [] (begins_after 1 4) 2 0 true (races_rows (runs ran (1 ∷ []) [] []) (1 ∷ [])) ≡ Some (Breaks 2 K5))

-- the certificate, and one that has no split on a winner
abbrev pub races_tree : Tree
races_tree = OnWinner 2 0 (RowsLeaf (races_rows (not_run nothing) [])) (RowsLeaf (races_rows (runs ran (1 ∷ []) [] []) (1 ∷ [])))

abbrev pub NoWinners : Tree → Type 0
NoWinners (OnInput i on_true on_false) = NoWinners on_true × NoWinners on_false
NoWinners (OnEnd t ran canceled faulted) = NoWinners ran × NoWinners canceled × NoWinners faulted
NoWinners (OnWinner n x on_yes on_no) = ⊥
NoWinners (RowsLeaf rows) = Unit {0}
NoWinners LeastLeaf = Unit {0}

-- the first is accepted, and none of the others
abbrev pub SplitIsNeeded : Type 0
SplitIsNeeded =
    AcceptsWithTokens races (claim (begins_after 1 4) ∷ []) (races_tree ∷ [])
    × ((tree : Tree) → NoWinners tree → AcceptsWithTokens races (claim (begins_after 1 4) ∷ []) (tree ∷ []) → ⊥)

-- the body behind a WhenAny task reads how its winner ended, and not how the others did
abbrev pub reads_end : TaskGraph
reads_end = graph (root returns ∷ root throws ∷ when_any (0 ∷ 1 ∷ []) ∷ continues 2 (When Faulted throws returns ⨾ Nothing) ∷ [])

abbrev pub reads_end_rows : Finals → List Row
reads_end_rows last = plainly (ends ran) ∷ plainly (ends faulted) ∷ plainly (not_run ran) ∷ plainly (ends last) ∷ []

abbrev pub WinnerIsRead : Type 0
WinnerIsRead =
    (won reads_end [] (ends_in 3 ran) 2 0 true (reads_end_rows ran) ≡ None)
    × (won reads_end [] (ends_in 3 faulted) 2 0 false (reads_end_rows faulted) ≡ None)
    × (won reads_end [] (ends_in 3 ran) 2 0 false (reads_end_rows ran) ≡ Some (Breaks 3 K2))
    × (fault reads_end [] (ends_in 3 ran) (reads_end_rows ran) ≡ Some (Breaks 3 K2))

-- a WhenAny task ends if one ends that may win it
abbrev pub one_is_stuck : TaskGraph
one_is_stuck = with_tokens (Plain ∷ []) (graph (root stuck ∷ root returns ∷ when_any (0 ∷ 1 ∷ []) ∷ []))

abbrev pub stuck_rows : List Row
stuck_rows = plainly (ends nothing) ∷ plainly (ends ran) ∷ plainly (not_run nothing) ∷ []

abbrev pub StuckWinner : Type 0
StuckWinner =
    (won one_is_stuck (given_quiet 0 ∷ []) (ends_in 2 nothing) 2 0 true stuck_rows ≡ None)
    × (won one_is_stuck (given_quiet 0 ∷ []) (ends_in 2 nothing) 2 1 false stuck_rows ≡ None)
    × (won one_is_stuck (given_quiet 0 ∷ []) (ends_in 2 nothing) 2 0 false stuck_rows ≡ Some (Breaks 2 K2))
    × (fault one_is_stuck (given_quiet 0 ∷ []) (ends_in 2 nothing) stuck_rows ≡ Some (Breaks 2 K2))

-- splits on one task are intersected, and say nothing of another
abbrev pub three_race : TaskGraph
three_race =
    graph (root returns ∷ root returns ∷ root returns ∷ when_any (0 ∷ 1 ∷ 2 ∷ []) ∷ continues 3 returns ∷ when_any (0 ∷ 1 ∷ 2 ∷ []) ∷ [])

abbrev pub three_rows : List Row
three_rows =
    plainly (ends ran)
    ∷ plainly (ends ran)
    ∷ plainly (ends ran)
    ∷ plainly (behind ran (2 ∷ []))
    ∷ plainly (runs ran (2 ∷ []) [] [])
    ∷ plainly (not_run ran)
    ∷ []

-- the fault where neither of two splits has the winner
abbrev pub neither : ℕ → ℕ → ℕ → ℕ → Option LeafFault
neither n x m y =
    token_leaf_fault three_race (begins_after 2 4) (winner_split (winner_split (for_claim three_race [] (begins_after 2 4)) n x false) m y false) three_rows

abbrev pub SplitsAreIntersected : Type 0
SplitsAreIntersected =
    (neither 3 0 3 1 ≡ None)
    × (neither 3 0 3 0 ≡ Some (Breaks 3 K5))
    × (neither 3 0 5 1 ≡ Some (Breaks 3 K5))
    × (won three_race [] (begins_after 2 4) 3 2 true three_rows ≡ None)
    × (won three_race [] (begins_after 2 4) 5 2 true three_rows ≡ Some (Breaks 3 K5))

-- a chain leads behind a WhenAny task where the task before it alone may win, to a reader that begins where WhenAny ran
abbrev pub read_behind : Task → TaskGraph
read_behind reader =
    with_tokens (Plain ∷ []) (graph (root throws ∷ root returns ∷ when_all (0 ∷ []) ∷ when_any (2 ∷ 1 ∷ []) ∷ reader ∷ []))

abbrev pub read_rows : List ℕ → List Row
read_rows chain =
    plainly (runs faulted [] [] chain) ∷ plainly (ends ran) ∷ plainly (not_run faulted) ∷ plainly (not_run ran) ∷ plainly (ends ran) ∷ []

abbrev pub ChainBehindWinner : Type 0
ChainBehindWinner =
    (won (read_behind (continues 3 observes)) [] (is_observed 0) 3 2 true (read_rows (2 ∷ 4 ∷ [])) ≡ None)
    × (won (read_behind (continues 3 observes)) [] (is_observed 0) 3 1 false (read_rows (2 ∷ 4 ∷ [])) ≡ None)
    × (fault (read_behind (continues 3 observes)) [] (is_observed 0) (read_rows (2 ∷ 4 ∷ [])) ≡ Some (Breaks 0 K6))
    × (won (read_behind (continues 3 observes)) [] (is_observed 0) 3 2 false (read_rows (2 ∷ 4 ∷ [])) ≡ Some (Breaks 0 K6))
    × (won (read_behind (continues 3 observes)) [] (is_observed 0) 3 2 true (read_rows (4 ∷ [])) ≡ Some (Breaks 0 K6))
    × (won (read_behind (continues 3 returns)) [] (is_observed 0) 3 2 true (read_rows (2 ∷ 4 ∷ [])) ≡ Some (Breaks 0 K6))
    × (won (read_behind (with_options (not_on Faulted) (continues 3 observes))) [] (is_observed 0) 3 2 true (read_rows (2 ∷ 4 ∷ [])) ≡ None)
    × (won (read_behind (with_options only_on_faulted (continues 3 observes))) [] (is_observed 0) 3 2 true (read_rows (2 ∷ 4 ∷ [])) ≡ Some (Breaks 0 K6))
    × (won (read_behind (with_token 0 (continues 3 observes))) [] (is_observed 0) 3 2 true (read_rows (2 ∷ 4 ∷ [])) ≡ Some (Breaks 0 K6))
