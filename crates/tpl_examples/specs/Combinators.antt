-- WhenAll and WhenAny tasks.
use Rattle.std.specs.Prelude.{ℕ, Some, None, List, [], ◌∷◌}
use Rattle.tpl_model.specs.declared.finals.Final.TheVariants.{RanToCompletion, Canceled, Faulted}
use Rattle.tpl_model.specs.declared.status.Status.TheVariants.{WaitingForActivation}
use Rattle.tpl_model.specs.declared.event.Act.TheVariants.{Settle}
use Rattle.tpl_model.specs.Options.{synchronously_bit}
use Rattle.tpl_model.specs.Statements.{Observe, When, Nothing, ◌⨾◌}
use Rattle.tpl_model.specs.Graph.{TaskGraph, Plain}
use Rattle.tpl_model.specs.Valid.{IsGraph}
use Rattle.tpl_examples.specs.Words.{worker, outside, task, Deed, release, begin, step, leave, close, drop, settle, request, by, drop_outside, ending_at, thrown, returns, throwing, root, continues, when_all, when_any, with_token, with_options, only_on_faulted, only_on_ran_to_completion, graph, with_tokens, is_observed, claim}
use Rattle.tpl_examples.specs.Stories.{Story, the_end, ◌⇒◌, ◌&◌, ◌⇛◌, through, may, may_not, may_none, is, ended, all_ended, ended_by, threw, threw_nothing, carries, observed, unobserved, reads, won_by, won_by_none, complete, holds, fails}

-- a root that throws, one with a token, and WhenAll of both in both orders
abbrev pub all_graph : TaskGraph
all_graph = with_tokens (Plain ∷ []) (graph (root (throwing 0) ∷ with_token 0 (root returns) ∷ when_all (0 ∷ 1 ∷ []) ∷ when_all (1 ∷ 0 ∷ []) ∷ []))

-- the second is canceled
abbrev pub one_canceled : List Deed
one_canceled = request 1 0 ∷ drop_outside 1 1 ∷ []

-- WhenAll of a faulted and a canceled task, in either order, is faulted with the exception of the one
abbrev pub WhenAllOfFaultedAndCanceled : Type 0
WhenAllOfFaultedAndCanceled =
    Story all_graph []
    (one_canceled ⇛ through 1 0 ⇛ settle 1 2 ⇒ settle 1 3
    ⇒ ended 1 Canceled & all_ended (0 ∷ 2 ∷ 3 ∷ []) Faulted & carries 2 (0 ∷ []) & carries 3 (0 ∷ []) & threw_nothing 2
    & complete & the_end)

-- the outside settles a task
abbrev pub settle_outside : ℕ → Deed
settle_outside t = by (outside 1) (Settle (task t))

-- WhenAll waits for each argument, and is settled once, by anyone; it isn't begun, released, closed or canceled
abbrev pub WhenAllWaitsForAll : Type 0
WhenAllWaitsForAll =
    Story all_graph []
    (is 2 WaitingForActivation & may_none (settle 1 2 ∷ settle 1 0 ∷ settle 1 4 ∷ [])
    & one_canceled ⇛ may_none (settle 1 2 ∷ settle 1 3 ∷ [])
    & through 1 0 ⇛ may (settle_outside 2) & may_none (settle 1 0 ∷ begin 1 2 ∷ release 1 2 ∷ close 1 2 ∷ drop 1 2 ∷ [])
    & settle 1 2 ⇒ settle 1 3 ⇒ may_not (settle 1 2) & ended_by 2 (ending_at 6 (worker 1) Faulted (0 ∷ [])) & the_end)

-- WhenAll of a canceled task and others that ran is canceled, in whatever order; of tasks that ran, also of one named
-- twice, it ran
abbrev pub WhenAllWithoutAnException : Type 0
WhenAllWithoutAnException =
    Story
    (with_tokens (Plain ∷ [])
    (graph
    (root returns
    ∷ with_token 0 (root returns)
    ∷ root returns
    ∷ when_all (0 ∷ 1 ∷ [])
    ∷ when_all (0 ∷ 2 ∷ 0 ∷ [])
    ∷ when_all (1 ∷ 0 ∷ [])
    ∷ []))) []
    (through 1 0 ⇛ request 1 0 ⇒ drop 1 1 ⇒ through 1 2 ⇛ settle 1 3 ⇒ settle 1 4 ⇒ settle 1 5
    ⇒ all_ended (3 ∷ 5 ∷ []) Canceled & ended 4 RanToCompletion & carries 3 [] & complete & the_end)

-- WhenAll of nothing has ended before the first event; WhenAny of nothing is none
abbrev pub WhenAllOfNothing : Type 0
WhenAllOfNothing =
    Story (graph (when_all [] ∷ continues 0 returns ∷ [])) []
    (ended 0 RanToCompletion & ended_by 0 (record { place = 0; actor = None; final = RanToCompletion; carried = []; winner = None })
    & may_not (settle 1 0) & may (release 1 1) & the_end)
    × Story (graph (when_all [] ∷ [])) [] (complete & the_end)
    × (IsGraph (graph (when_any [] ∷ [])) → ⊥)

-- WhenAll takes over its arguments' exceptions in the order of its list, each once, and they are observed through it:
-- three roots that throw, WhenAll of two of them, and WhenAll of all three with one of them named twice
abbrev pub WhenAllGathersEachOnce : Type 0
WhenAllGathersEachOnce =
    Story
    (graph
    (root (throwing 0)
    ∷ root (throwing 1)
    ∷ root (throwing 2)
    ∷ when_all (1 ∷ 0 ∷ [])
    ∷ when_all (2 ∷ 0 ∷ 3 ∷ 2 ∷ [])
    ∷ continues 4 (Observe ⨾ Nothing)
    ∷ [])) []
    (through 1 0 ⇛ through 1 1 ⇛ settle 1 3 ⇒ through 1 2 ⇛ settle 1 4 ⇒ release 1 5 ⇒ through 1 5
    ⇛ carries 3 (1 ∷ 0 ∷ []) & carries 4 (2 ∷ 0 ∷ 1 ∷ []) & observed 0 & observed 1 & observed 2 & ended 5 RanToCompletion & the_end)

-- a root that returns, one that throws, WhenAny of both, and an observing continuation
abbrev pub any_graph : TaskGraph
any_graph = graph (root returns ∷ root (throwing 0) ∷ when_any (0 ∷ 1 ∷ []) ∷ continues 2 (Observe ⨾ Nothing) ∷ [])

-- WhenAny is settled, and observed
abbrev pub winner_observed : List Deed
winner_observed = settle 1 2 ∷ release 1 3 ∷ through 1 3

-- the winner of WhenAny is the argument that ended first, and its exception is observed through it
abbrev pub WinnerIsTheFirstToEnd : Type 0
WinnerIsTheFirstToEnd =
    Story any_graph []
    (through 1 1 ⇛ winner_observed ⇛ through 1 0
    ⇛ won_by 2 1 & reads 3 1 & observed 1 & ended 1 Faulted & all_ended (0 ∷ 2 ∷ 3 ∷ []) RanToCompletion
    & complete & holds (claim (is_observed 1)) & the_end)

-- where the argument that returns ends first, the other one's exception stays unobserved
abbrev pub LoserStaysUnobserved : Type 0
LoserStaysUnobserved =
    Story any_graph []
    (through 1 0 ⇛ through 1 1 ⇛ winner_observed
    ⇛ won_by 2 0 & unobserved 1 & complete & fails (claim (is_observed 1)) & the_end)

-- the order of the endings decides, and not when WhenAny is settled; WhenAny carries no exception
abbrev pub WinnerOfALateSettle : Type 0
WinnerOfALateSettle =
    Story any_graph []
    (through 1 1 ⇛ through 1 0 ⇛ settle 1 2
    ⇒ ended_by 2 (record { place = 7; actor = Some (worker 1); final = RanToCompletion; carried = []; winner = Some 1 }) & the_end)

-- WhenAny waits for one argument, and is settled once
abbrev pub WhenAnyWaitsForOne : Type 0
WhenAnyWaitsForOne =
    Story any_graph []
    (is 2 WaitingForActivation & may_none (settle 1 2 ∷ release 1 3 ∷ [])
    & through 1 1 ⇛ won_by_none 2 & may (settle_outside 2) & may_not (release 1 3)
    & settle 1 2 ⇒ may_not (settle 1 2) & may (release 1 3) & the_end)

-- of the arguments that ended before the first event the earliest in the list wins, and it wins over one that ended by
-- an event
abbrev pub WinnerBeforeTheFirstEvent : Type 0
WinnerBeforeTheFirstEvent =
    Story (graph (when_all [] ∷ when_all [] ∷ root returns ∷ when_any (1 ∷ 0 ∷ []) ∷ when_any (2 ∷ 0 ∷ []) ∷ when_any (2 ∷ 2 ∷ 1 ∷ 0 ∷ []) ∷ [])) []
    (may (settle 1 3)
    & through 1 2 ⇛ settle 1 3 ⇒ settle 1 4 ⇒ settle 1 5 ⇒ won_by 3 1 & won_by 4 0 & won_by 5 1 & the_end)

-- continuations of WhenAny whose winner is faulted: one that wants the antecedent to have run, and branches, and one that
-- wants it faulted
abbrev pub winner_options_graph : TaskGraph
winner_options_graph =
    graph
    (root (throwing 0)
    ∷ when_any (0 ∷ [])
    ∷ with_options only_on_ran_to_completion (continues 1 (When Faulted (throwing 1) (throwing 2) ⨾ Nothing))
    ∷ with_options only_on_faulted (continues 1 returns)
    ∷ [])

-- options speak of the antecedent, and a body's branches of its winner
abbrev pub OptionsSpeakOfTheAntecedent : Type 0
OptionsSpeakOfTheAntecedent =
    Story winner_options_graph []
    (through 1 0 ⇛ settle 1 1 ⇒ release 1 2 ⇒ drop 1 3 ⇒ begin 1 2 ⇒ step 1 2 ⇒ step 1 2 ⇒ leave 1 2
    ⇒ threw 2 (thrown 1) & ended 3 Canceled & the_end)

-- a body reads through one WhenAny, and not through two
abbrev pub SubjectIsOneLevelBelow : Type 0
SubjectIsOneLevelBelow =
    Story (graph (root (throwing 0) ∷ when_any (0 ∷ []) ∷ when_any (1 ∷ []) ∷ continues 2 (Observe ⨾ Nothing) ∷ [])) []
    (through 1 0 ⇛ settle 1 1 ⇒ winner_observed ⇛ won_by 2 1 & reads 3 1 & unobserved 0 & the_end)

-- a synchronous continuation of a WhenAll task begins on the worker that settled this task
abbrev pub SynchronousAfterASettle : Type 0
SynchronousAfterASettle =
    Story (graph (root returns ∷ when_all (0 ∷ []) ∷ with_options synchronously_bit (continues 1 returns) ∷ [])) []
    (through 1 0 ⇛ settle 2 1 ⇒ release 1 2 ⇒ may_not (begin 1 2) & may (begin 2 2) & the_end)
