-- Claims that hold in a run, and claims that fail at a place of it.
use Rattle.std.specs.Prelude.{ℕ, Bool, true, false, List, [], ◌∷◌, ◌++◌}
use Rattle.tpl_model.specs.Statements.{Check, Start, Observe, If, Nothing, ◌⨾◌}
use Rattle.tpl_model.specs.Graph.{TaskGraph, Task, Plain}
use Rattle.tpl_model.specs.declared.finals.Finals.{Finals}
use Rattle.tpl_model.specs.Claims.{Claim}
use Rattle.tpl_examples.specs.Words.{Deed, release, begin, step, done, leave, close, drop, request, drop_outside, returns, throwing, root, child, detached_child, continues, with_token, graph, with_tokens, with_inputs, ran, canceled, faulted, ends_in, begins_after, is_observed, never_begins, exclude, must_run, given_input, given_quiet, given_end, given_success, claim, claim_given}
use Rattle.tpl_examples.specs.Stories.{Story, Plot, the_end, ◌⇒◌, ◌&◌, ◌⇛◌, through, unobserved, complete, incomplete, holds, fails}
use Rattle.tpl_examples.specs.Cancellation.{checks, blind_graph}
use Rattle.tpl_examples.specs.Continuations.{stop_graph, handler_graph, failure}

-- a claim about a task's end fails where the task ends otherwise, and not before
abbrev pub ClaimFailsAtTheEnd : Type 0
ClaimFailsAtTheEnd =
    Story (checks 0) []
    (begin 1 0 ⇒ request 1 0 ⇒ step 1 0 ⇒ holds (claim (ends_in 0 ran))
    & leave 1 0 ⇒ fails (claim (ends_in 0 ran)) & holds (claim (ends_in 0 canceled)) & fails (claim (ends_in 0 faulted)) & the_end)

-- a body that never checks runs to its end, and there the claim holds
abbrev pub ClaimHoldsWithoutACheck : Type 0
ClaimHoldsWithoutACheck =
    Story blind_graph []
    (begin 1 0 ⇒ request 1 0 ⇒ step 1 0 ⇒ leave 1 0
    ⇒ complete & holds (claim (ends_in 0 ran)) & fails (claim (ends_in 0 canceled)) & the_end)

-- the second of three is canceled early, and the third begins before the first
abbrev pub overtaken : List Deed
overtaken = request 1 0 ∷ drop_outside 1 1 ∷ release 1 2 ∷ []

-- the three run one after another
abbrev pub in_order : List Deed
in_order = through 1 0 ++ (release 1 1 ∷ through 1 1) ++ (release 1 2 ∷ begin 1 2 ∷ [])

-- a claim about the order fails where the second task begins, and a later end of the first one mends nothing
abbrev pub ClaimFailsAtTheBegin : Type 0
ClaimFailsAtTheBegin =
    Story (stop_graph 0) []
    (overtaken ⇛ holds (claim (begins_after 0 2))
    & begin 1 2 ⇒ fails (claim (begins_after 0 2))
    & through 2 0 ⇛ fails (claim (begins_after 0 2)) & holds (claim (begins_after 1 2)) & the_end)
    × Story (stop_graph 0) [] (in_order ⇛ holds (claim (begins_after 0 2)) & fails (claim (begins_after 2 0)) & the_end)

-- a claim that takes a token as quiet doesn't speak of a run in which it is requested
abbrev pub ClaimOfQuietRuns : Type 0
ClaimOfQuietRuns =
    Story (stop_graph 0) [] (overtaken ⇛ begin 1 2 ⇒ holds (claim_given (given_quiet 0 ∷ []) (begins_after 0 2)) & the_end)
    × Story (stop_graph 0) []
    (in_order ⇛ holds (claim_given (given_quiet 0 ∷ []) (begins_after 0 2)) & fails (claim_given (given_quiet 0 ∷ []) (begins_after 2 0)) & the_end)

-- the story of a root that returns where its input has this value, and else throws
abbrev pub by_input : Bool → Plot → Type 0
by_input value at_the_end =
    Story (with_inputs 1 (graph (root (If 0 returns (throwing 0) ⨾ Nothing) ∷ []))) (value ∷ [])
    (begin 1 0 ⇒ step 1 0 ⇒ step 1 0 ⇒ leave 1 0 ⇒ at_the_end)

-- where the input has this value, it ends so
abbrev pub where_input : Bool → Finals → Claim
where_input value ends = claim_given (given_input 0 value ∷ []) (ends_in 0 ends)

-- a claim with an input given speaks of the runs with this value
abbrev pub ClaimOfAnInput : Type 0
ClaimOfAnInput =
    by_input true (holds (claim (ends_in 0 ran)) & fails (where_input true faulted) & the_end)
    × by_input false (fails (claim (ends_in 0 ran)) & holds (where_input true ran) & fails (where_input false ran) & the_end)

-- a root that throws, and this continuation of it, which may use a token
abbrev pub thrown_to : Task → TaskGraph
thrown_to reader = with_tokens (Plain ∷ []) (graph (root (throwing 0) ∷ reader ∷ []))

-- a claim that an exception is observed holds where it is, and as long as the run isn't complete
abbrev pub ExceptionIsObserved : Type 0
ExceptionIsObserved =
    Story (thrown_to (continues 0 (Observe ⨾ Nothing))) []
    (through 1 0 ⇛ unobserved 0 & holds (claim (is_observed 0))
    & release 1 1 ⇒ through 1 1 ⇛ complete & holds (claim (is_observed 0)) & holds (claim (is_observed 1)) & the_end)

-- a claim that an exception is observed fails where the continuation's body ends before its observe, or the
-- continuation never runs
abbrev pub ExceptionIsNotObserved : Type 0
ExceptionIsNotObserved =
    Story (thrown_to (continues 0 (Check 0 ⨾ Observe ⨾ Nothing))) []
    (through 1 0 ⇛ release 1 1 ⇒ begin 1 1 ⇒ request 1 0 ⇒ step 1 1 ⇒ leave 1 1
    ⇒ complete & fails (claim (is_observed 0)) & the_end)
    × Story (thrown_to (with_token 0 (continues 0 (Observe ⨾ Nothing)))) []
    (through 1 0 ⇛ request 1 0 ⇒ drop 1 1 ⇒ complete & fails (claim (is_observed 0)) & the_end)

-- a parent with this child, and the parent's continuation, which observes
abbrev pub family_of : Task → TaskGraph
family_of kid = graph (root (Start 1 ⨾ Nothing) ∷ kid ∷ continues 0 (Observe ⨾ Nothing) ∷ [])

-- an attached child is settled before its parent's continuation begins, and its exception is observed there; a detached
-- child's neither
abbrev pub ClaimsOfAttachedAndDetachedChildren : Type 0
ClaimsOfAttachedAndDetachedChildren =
    Story (family_of (child (throwing 0))) []
    (through 1 0 ⇛ through 1 1 ⇛ close 1 0 ⇒ release 1 2 ⇒ through 1 2
    ⇛ complete & holds (claim (begins_after 1 2)) & holds (claim (is_observed 1)) & holds (claim (is_observed 0)) & the_end)
    × Story (family_of (detached_child (throwing 0))) []
    (through 1 0 ⇛ release 1 2 ⇒ through 1 2 ⇛ through 1 1
    ⇛ complete & fails (claim (begins_after 1 2)) & fails (claim (is_observed 1)) & holds (claim (is_observed 0)) & the_end)

-- a parent that starts its child by an input, and its continuation
abbrev pub maybe_graph : TaskGraph
maybe_graph = with_inputs 1 (graph (root (If 0 (Start 1 ⨾ Nothing) Nothing ⨾ Nothing) ∷ detached_child returns ∷ continues 0 returns ∷ []))

-- a child that isn't started is settled where its parent's continuation begins
abbrev pub UnstartedChildIsSettledBefore : Type 0
UnstartedChildIsSettledBefore =
    Story maybe_graph (false ∷ []) (through 1 0 ⇛ release 1 2 ⇒ begin 1 2 ⇒ holds (claim (begins_after 1 2)) & the_end)
    × Story maybe_graph (true ∷ [])
    (begin 1 0 ⇒ step 1 0 ⇒ step 1 0 ⇒ leave 1 0 ⇒ release 1 2 ⇒ begin 1 2 ⇒ fails (claim (begins_after 1 2)) & the_end)

-- the job is done, and the continuation for this case begins
abbrev pub success : List Deed
success = begin 1 0 ∷ done 1 0 ∷ leave 1 0 ∷ release 1 2 ∷ drop 1 1 ∷ begin 1 2 ∷ []

-- what is true of a job that may fail where it failed, and where it didn't, as soon as one of its continuations has begun
abbrev pub Handling : Plot → Plot → Type 0
Handling if_failed if_done = Story handler_graph [] (failure ⇛ if_failed) × Story handler_graph [] (success ⇛ if_done)

-- a task that is canceled has never begun, and the two continuations exclude each other
abbrev pub NeverAndExcludes : Type 0
NeverAndExcludes =
    Handling
    (holds (claim (never_begins 2)) & fails (claim (never_begins 1)) & holds (claim (exclude 1 2)) & fails (claim (exclude 0 1)) & the_end)
    (holds (claim (never_begins 1)) & fails (claim (never_begins 2)) & holds (claim (exclude 1 2)) & the_end)

-- a claim that a task runs fails where the run is complete and the task hasn't begun, and not before
abbrev pub ClaimThatATaskRuns : Type 0
ClaimThatATaskRuns =
    Story handler_graph []
    (failure ⇛ incomplete & holds (claim (must_run 2))
    & step 1 1 ⇒ leave 1 1 ⇒ complete & holds (claim (must_run 1)) & fails (claim (must_run 2)) & the_end)

-- where a task ends so, another one never begins
abbrev pub never_where : ℕ → Finals → ℕ → Claim
never_where t ends other = claim_given (given_end t ends ∷ []) (never_begins other)

-- a claim with an end given speaks of the runs in which the task ends so, or hasn't ended
abbrev pub ClaimOfAnEnd : Type 0
ClaimOfAnEnd =
    Handling
    (holds (never_where 0 ran 1) & fails (never_where 0 faulted 1) & fails (never_where 1 ran 1) & the_end)
    (holds (never_where 0 faulted 2) & the_end)

-- where a job succeeds, a task never begins
abbrev pub never_if_done : ℕ → ℕ → Claim
never_if_done site t = claim_given (given_success site ∷ []) (never_begins t)

-- a claim with a job that succeeds speaks of the runs in which that job hasn't failed
abbrev pub ClaimOfAJob : Type 0
ClaimOfAJob = Handling (holds (never_if_done 0 1) & fails (never_if_done 1 1) & the_end) (fails (never_if_done 0 2) & the_end)
