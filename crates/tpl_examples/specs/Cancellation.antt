-- Requested tokens: what they stop, and what they don't.
use Rattle.std.specs.Prelude.{ℕ, [], ◌∷◌}
use Rattle.tpl_model.specs.declared.finals.Final.TheVariants.{RanToCompletion, Canceled, Faulted}
use Rattle.tpl_model.specs.declared.status.Status.TheVariants.{WaitingToRun, Running}
use Rattle.tpl_model.specs.declared.event.Act.TheVariants.{Request}
use Rattle.tpl_model.specs.Statements.{Statements, Return, Throw, Check, Cancel, Nothing, ◌⨾◌}
use Rattle.tpl_model.specs.Graph.{TaskGraph, Plain}
use Rattle.tpl_examples.specs.Words.{worker, outside, begin, step, leave, drop, request, by, drop_outside, ending_at, operation_canceled, returns, root, with_token, graph, with_tokens}
use Rattle.tpl_examples.specs.Stories.{Story, the_end, ◌⇒◌, ◌&◌, ◌⇛◌, through, may, may_not, may_none, is, ended, ended_by, threw, threw_nothing, carries, requested, unrequested, complete}

-- a root with the first of two tokens, which does this
abbrev pub own : Statements → TaskGraph
own body = with_tokens (Plain ∷ Plain ∷ []) (graph (with_token 0 (root body) ∷ []))

-- it checks a token, its own or another one
abbrev pub checks : ℕ → TaskGraph
checks k = own (Check k ⨾ Nothing)

-- a check of a requested token that is not the task's own throws
abbrev pub CheckOfAnotherTokenThrows : Type 0
CheckOfAnotherTokenThrows =
    Story (checks 1) []
    (request 1 1 ⇒ through 1 0 ⇛ ended 0 Faulted & threw 0 (operation_canceled 1) & carries 0 (0 ∷ []) & the_end)

-- a check of the own requested token acknowledges the cancellation
abbrev pub CheckOfTheOwnTokenCancels : Type 0
CheckOfTheOwnTokenCancels =
    Story (checks 0) []
    (begin 1 0 ⇒ request 1 0 ⇒ step 1 0 ⇒ leave 1 0 ⇒ ended 0 Canceled & threw_nothing 0 & carries 0 [] & the_end)

-- a check of a token that isn't requested goes on
abbrev pub CheckOfAnUnrequestedTokenGoesOn : Type 0
CheckOfAnUnrequestedTokenGoesOn =
    Story (checks 0) [] (through 1 0 ⇛ ended 0 RanToCompletion & the_end)
    × Story (checks 1) [] (through 1 0 ⇛ ended 0 RanToCompletion & the_end)

-- it never checks
abbrev pub blind_graph : TaskGraph
blind_graph = own returns

-- a body that never checks is not stopped, and its task is not canceled once it has begun
abbrev pub BodyThatNeverChecksIsNotStopped : Type 0
BodyThatNeverChecksIsNotStopped =
    Story blind_graph []
    (begin 1 0 ⇒ request 1 0 ⇒ may_none (drop_outside 1 0 ∷ drop 1 0 ∷ [])
    & step 1 0 ⇒ leave 1 0 ⇒ ended 0 RanToCompletion & the_end)

-- a task whose token is requested before it begins doesn't begin, and anyone may cancel it
abbrev pub RequestedBeforeItBegins : Type 0
RequestedBeforeItBegins =
    Story blind_graph []
    (request 1 0 ⇒ is 0 WaitingToRun & may_not (begin 1 0) & may (drop 1 0)
    & drop_outside 2 0 ⇒ ended_by 0 (ending_at 2 (outside 2) Canceled [])
    & may_none (drop_outside 2 0 ∷ begin 1 0 ∷ []) & complete & the_end)

-- a task is not canceled without a request, and the request of another token doesn't count
abbrev pub OnlyTheOwnTokenCancels : Type 0
OnlyTheOwnTokenCancels =
    Story blind_graph [] (may_not (drop_outside 1 0) & request 1 0 ⇒ may_not (drop_outside 1 1) & the_end)
    × Story (checks 1) [] (request 1 1 ⇒ may_not (drop_outside 1 0) & may (begin 1 0) & the_end)

-- the outside requests a token of the graph, once; a worker doesn't
abbrev pub TokenIsRequestedOnce : Type 0
TokenIsRequestedOnce =
    Story (checks 1) []
    (may (request 1 0) & may (request 1 1) & may_none (request 1 2 ∷ by (worker 1) (Request (record { 0 = 0 })) ∷ []) & unrequested 0
    & request 1 0 ⇒ requested 0 & unrequested 1 & may_none (request 1 0 ∷ request 2 0 ∷ []) & may (request 2 1) & the_end)

-- it cancels a token, checks it and throws
abbrev pub cancels : Statements
cancels = Cancel 0 ⨾ Check 0 ⨾ Throw 0 ⨾ Nothing

-- a cancel statement requests a token when it is passed, and the body goes on to its next check
abbrev pub CancelStatementRequests : Type 0
CancelStatementRequests =
    Story (with_tokens (Plain ∷ Plain ∷ []) (graph (root cancels ∷ []))) []
    (begin 1 0 ⇒ unrequested 0
    & step 1 0 ⇒ requested 0 & unrequested 1 & may_not (request 1 0) & is 0 Running
    & step 1 0 ⇒ leave 1 0 ⇒ ended 0 Faulted & threw 0 (operation_canceled 0) & the_end)

-- a body may cancel its own task's token, and acknowledge it
abbrev pub CancelOfTheOwnToken : Type 0
CancelOfTheOwnToken =
    Story (own cancels) []
    (begin 1 0 ⇒ step 1 0 ⇒ step 1 0 ⇒ leave 1 0 ⇒ ended 0 Canceled & threw_nothing 0 & the_end)

-- a cancel of a token that is requested already changes nothing, and is passed
abbrev pub CancelOfARequestedToken : Type 0
CancelOfARequestedToken =
    Story (with_tokens (Plain ∷ []) (graph (root (Cancel 0 ⨾ Return ⨾ Nothing) ∷ with_token 0 (root returns) ∷ []))) []
    (request 1 0 ⇒ drop 1 1 ⇒ begin 1 0 ⇒ step 1 0 ⇒ step 1 0 ⇒ leave 1 0 ⇒ ended 0 RanToCompletion & ended 1 Canceled & the_end)
