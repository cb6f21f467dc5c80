-- Children: which are waited for, and what their parents take over.
use Rattle.std.specs.Prelude.{ℕ, true, false, List, [], ◌∷◌, ◌++◌}
use Rattle.tpl_model.specs.declared.finals.Final.TheVariants.{RanToCompletion, Canceled, Faulted}
use Rattle.tpl_model.specs.declared.status.Status.TheVariants.{Created, WaitingToRun, WaitingForChildrenToComplete}
use Rattle.tpl_model.specs.declared.event.Act.TheVariants.{Release, Close, Settle}
use Rattle.tpl_model.specs.Options.{deny_child_attach_bit}
use Rattle.tpl_model.specs.Statements.{Statements, Check, Start, If, Nothing, ◌⨾◌}
use Rattle.tpl_model.specs.Graph.{TaskGraph, Task, Plain}
use Rattle.tpl_examples.specs.Words.{worker, outside, task, Deed, release, begin, step, leave, close, drop, request, by, drop_outside, ending_at, thrown, returns, throwing, root, child, detached_child, with_token, with_options, graph, with_tokens, with_inputs}
use Rattle.tpl_examples.specs.Stories.{Story, Plot, the_end, ◌⇒◌, ◌&◌, ◌⇛◌, through, may, may_not, may_none, is, ended, ended_by, threw, threw_nothing, carries, unobserved, started, unstarted, settled, unsettled, complete, incomplete}

-- a parent that starts this child and returns
abbrev pub parent_of : Task → TaskGraph
parent_of kid = graph (root (Start 1 ⨾ returns) ∷ kid ∷ [])

-- a parent whose attached child throws
abbrev pub parent_graph : TaskGraph
parent_graph = parent_of (child (throwing 0))

-- the parent starts its child and leaves its body
abbrev pub parent_leaves : List Deed
parent_leaves = begin 1 0 ∷ step 1 0 ∷ step 1 0 ∷ leave 1 0 ∷ []

-- an attached child faults its parent
abbrev pub ChildFaultsItsParent : Type 0
ChildFaultsItsParent =
    Story parent_graph []
    (parent_leaves ⇛ through 1 1 ⇛ close 1 0
    ⇒ ended 0 Faulted & carries 0 (1 ∷ []) & threw_nothing 0
    & ended 1 Faulted & carries 1 (1 ∷ []) & threw 1 (thrown 0) & unobserved 1 & complete & the_end)

-- the outside closes a task
abbrev pub closed_outside : ℕ → Deed
closed_outside t = by (outside 1) (Close (task t))

-- a parent that has left its body waits for its child, carries nothing meanwhile, and ends by its close
abbrev pub ParentWaitsForItsChild : Type 0
ParentWaitsForItsChild =
    Story parent_graph []
    (parent_leaves ⇛ is 0 WaitingForChildrenToComplete & may_not (close 1 0) & incomplete
    & through 1 1 ⇛ is 0 WaitingForChildrenToComplete & carries 0 [] & incomplete & may (close 2 0) & may (closed_outside 0)
    & may_none (closed_outside 1 ∷ closed_outside 2 ∷ leave 1 0 ∷ [])
    & close 1 0 ⇒ may_not (close 1 0) & ended_by 0 (ending_at 8 (worker 1) Faulted (1 ∷ [])) & the_end)

-- a child is created, and waits to run once its parent has passed its start; then any worker begins it
abbrev pub ChildIsStarted : Type 0
ChildIsStarted =
    Story parent_graph []
    (is 1 Created
    & begin 1 0 ⇒ is 1 Created & unstarted 1 & may_none (begin 2 1 ∷ release 2 1 ∷ [])
    & step 1 0 ⇒ started 1 & is 1 WaitingToRun & may (begin 1 1) & may (begin 2 1) & the_end)

-- a parent whose children have ended before it leaves its body ends there, without a close
abbrev pub ChildEndsBeforeItsParent : Type 0
ChildEndsBeforeItsParent =
    Story parent_graph []
    (begin 1 0 ⇒ step 1 0 ⇒ through 2 1 ⇛ step 1 0 ⇒ leave 1 0
    ⇒ ended 0 Faulted & carries 0 (1 ∷ []) & may_not (close 1 0)
    & ended_by 0 (ending_at 7 (worker 1) Faulted (1 ∷ [])) & complete & the_end)

-- a child that its parent denies is not waited for, and leaves its parent alone
abbrev pub DeniedChild : Type 0
DeniedChild =
    Story (graph (with_options deny_child_attach_bit (root (Start 1 ⨾ returns)) ∷ child (throwing 0) ∷ [])) []
    (parent_leaves ⇛ ended 0 RanToCompletion & is 1 WaitingToRun & incomplete
    & through 1 1 ⇛ carries 0 [] & ended 1 Faulted & may_not (close 1 0) & complete & the_end)

-- a parent whose child is detached
abbrev pub detached_graph : TaskGraph
detached_graph = parent_of (detached_child (throwing 0))

-- a detached child is not waited for, and leaves its parent alone
abbrev pub DetachedChild : Type 0
DetachedChild =
    Story detached_graph []
    (parent_leaves ⇛ ended 0 RanToCompletion & through 1 1 ⇛ ended 1 Faulted & carries 0 [] & the_end)

-- a parent whose child has a token
abbrev pub child_token_graph : TaskGraph
child_token_graph = with_tokens (Plain ∷ []) (parent_of (with_token 0 (child returns)))

-- a canceled attached child doesn't change its parent's status
abbrev pub CanceledChild : Type 0
CanceledChild =
    Story child_token_graph []
    (request 1 0 ⇒ begin 1 0 ⇒ step 1 0 ⇒ drop 1 1 ⇒ step 1 0 ⇒ leave 1 0
    ⇒ ended 0 RanToCompletion & ended 1 Canceled & carries 0 [] & complete & the_end)

-- a child whose token is requested is canceled once it is started, and not before
abbrev pub ChildIsCanceledOnceStarted : Type 0
ChildIsCanceledOnceStarted =
    Story child_token_graph []
    (request 1 0 ⇒ may_none (drop 1 1 ∷ drop 1 0 ∷ [])
    & begin 1 0 ⇒ step 1 0 ⇒ may_none (begin 1 1 ∷ drop 1 0 ∷ [])
    & drop 1 1 ⇒ may_none (drop 1 1 ∷ drop 1 0 ∷ close 1 0 ∷ []) & the_end)

-- what may be due to a task, done from outside
abbrev pub due_to : ℕ → List Deed
due_to t = drop_outside 1 t ∷ by (outside 1) (Release (task t)) ∷ closed_outside t ∷ by (outside 1) (Settle (task t)) ∷ []

-- of a requested child nothing is due before it is started; then its cancellation is, and nothing more
abbrev pub NothingElseIsDue : Type 0
NothingElseIsDue =
    Story child_token_graph []
    (request 1 0 ⇒ may_none (due_to 0 ++ due_to 1)
    & begin 1 0 ⇒ step 1 0 ⇒ may (drop_outside 1 1)
    & drop 1 1 ⇒ may_none (due_to 0 ++ due_to 1) & the_end)

-- a child that is started only where an input is true
abbrev pub maybe_graph : TaskGraph
maybe_graph = with_inputs 1 (graph (root (If 0 (Start 1 ⨾ Nothing) Nothing ⨾ Nothing) ∷ child (Start 2 ⨾ Nothing) ∷ child returns ∷ []))

-- a child that is not started stays created; it is settled with its parent, and so is its own child, and the run is
-- complete without them
abbrev pub ChildThatIsNotStarted : Type 0
ChildThatIsNotStarted =
    Story maybe_graph (false ∷ [])
    (begin 1 0 ⇒ step 1 0 ⇒ unsettled 1 & unsettled 2
    & leave 1 0 ⇒ ended 0 RanToCompletion & is 1 Created & is 2 Created & settled 0 & settled 1 & settled 2
    & may_none (begin 1 1 ∷ drop 1 1 ∷ []) & complete & the_end)

-- a child that is started and hasn't ended isn't settled, nor is its parent, which waits for it
abbrev pub ChildThatIsStartedIsToEnd : Type 0
ChildThatIsStartedIsToEnd =
    Story maybe_graph (true ∷ [])
    (parent_leaves ⇛ is 0 WaitingForChildrenToComplete & is 1 WaitingToRun & is 2 Created
    & unsettled 0 & unsettled 1 & unsettled 2 & incomplete & the_end)

-- a detached child that is started and hasn't ended isn't settled, though its parent is
abbrev pub DetachedChildIsNotSettledWithItsParent : Type 0
DetachedChildIsNotSettledWithItsParent = Story detached_graph [] (parent_leaves ⇛ settled 0 & unsettled 1 & incomplete & the_end)

-- a parent carries its own exception, then its children's in the order of their start statements, not of their ids and
-- not of their endings: here it starts its third task before its second, and throws
abbrev pub ExceptionsInTheOrderOfTheText : Type 0
ExceptionsInTheOrderOfTheText =
    Story (graph (root (Start 2 ⨾ Start 1 ⨾ throwing 0) ∷ child (throwing 1) ∷ child (throwing 2) ∷ [])) []
    (begin 1 0 ⇒ step 1 0 ⇒ step 1 0 ⇒ through 2 1 ⇛ step 1 0 ⇒ leave 1 0 ⇒ through 2 2 ⇛ close 2 0
    ⇒ carries 0 (0 ∷ 2 ∷ 1 ∷ []) & ended 0 Faulted & complete & the_end)

-- a parent that starts one of two children, by an input, and then a third one
abbrev pub either_graph : TaskGraph
either_graph =
    with_inputs 1
    (graph
    (root (If 0 (Start 1 ⨾ Nothing) (Start 2 ⨾ Nothing) ⨾ Start 3 ⨾ Nothing)
    ∷ child (throwing 1)
    ∷ child (throwing 2)
    ∷ child (throwing 3)
    ∷ []))

-- a parent waits for each of its children that was started, and for no other
abbrev pub OnlyStartedChildrenAreWaitedFor : Type 0
OnlyStartedChildrenAreWaitedFor =
    Story either_graph (false ∷ [])
    (begin 1 0 ⇒ step 1 0 ⇒ step 1 0 ⇒ step 1 0 ⇒ leave 1 0 ⇒ through 1 3 ⇛ may_not (close 1 0)
    & through 1 2 ⇛ close 1 0 ⇒ carries 0 (2 ∷ 3 ∷ []) & is 1 Created & complete & the_end)

-- a grandchild, below this child of the root, which starts it and throws
abbrev pub grandchild_graph : (Statements → Task) → TaskGraph
grandchild_graph kid = graph (root (Start 1 ⨾ Nothing) ∷ kid (Start 2 ⨾ throwing 1) ∷ child (throwing 2) ∷ [])

-- they go through their bodies, parents first
abbrev pub family_leaves : List Deed
family_leaves = through 1 0 ++ (begin 1 1 ∷ step 1 1 ∷ step 1 1 ∷ leave 1 1 ∷ []) ++ through 1 2

-- exceptions come up through each attached child, and each family is closed from below
abbrev pub ExceptionsComeUp : Type 0
ExceptionsComeUp =
    Story (grandchild_graph child) []
    (family_leaves ⇛ may_not (close 1 0)
    & close 1 1 ⇒ close 1 0 ⇒ carries 2 (2 ∷ []) & carries 1 (1 ∷ 2 ∷ []) & carries 0 (1 ∷ 2 ∷ []) & ended 0 Faulted & the_end)

-- exceptions don't come up through a detached child
abbrev pub ExceptionsStopAtADetachedChild : Type 0
ExceptionsStopAtADetachedChild =
    Story (grandchild_graph detached_child) []
    (family_leaves ⇛ close 1 1 ⇒ carries 1 (1 ∷ 2 ∷ []) & carries 0 [] & ended 0 RanToCompletion & the_end)

-- a parent that acknowledges its cancellation, beside a child, which throws where the input is true
abbrev pub acknowledging_graph : TaskGraph
acknowledging_graph = with_tokens (Plain ∷ []) (with_inputs 1 (graph (with_token 0 (root (Start 1 ⨾ Check 0 ⨾ Nothing)) ∷ child (If 0 (throwing 0) Nothing ⨾ Nothing) ∷ [])))

abbrev pub acknowledges : Plot → Plot
acknowledges more = begin 1 0 ⇒ step 1 0 ⇒ request 1 0 ⇒ step 1 0 ⇒ leave 1 0 ⇒ begin 1 1 ⇒ step 1 1 ⇒ more

-- a parent that acknowledged is canceled, but for a child's exception
abbrev pub ExceptionOutweighsCancellation : Type 0
ExceptionOutweighsCancellation =
    Story acknowledging_graph (false ∷ []) (acknowledges (leave 1 1 ⇒ close 1 0 ⇒ ended 0 Canceled & the_end))
    × Story acknowledging_graph (true ∷ [])
    (acknowledges (step 1 1 ⇒ leave 1 1 ⇒ close 1 0 ⇒ ended 0 Faulted & carries 0 (1 ∷ []) & threw_nothing 0 & the_end))
