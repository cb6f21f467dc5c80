-- Tokens that are linked to others.
use Rattle.std.specs.Prelude.{ℕ, List, [], ◌∷◌}
use Rattle.tpl_model.specs.declared.finals.Final.TheVariants.{Canceled, Faulted}
use Rattle.tpl_model.specs.declared.claim.Given.{Given}
use Rattle.tpl_model.specs.Statements.{Throw, Check, Cancel, Nothing, ◌⨾◌}
use Rattle.tpl_model.specs.Graph.{TaskGraph, Token, Plain, Linked}
use Rattle.tpl_examples.specs.Words.{begin, step, leave, drop, request, drop_outside, operation_canceled, returns, root, with_token, graph, with_tokens, ran, canceled, ends_in, given_quiet, claim, claim_given}
use Rattle.tpl_examples.specs.Stories.{Story, the_end, ◌⇒◌, ◌&◌, may, may_not, ended, threw, requested, unrequested, complete, given, not_given, holds, fails}

-- the tokens 0 and 1, and 2 linked to both
abbrev pub link_tokens : List Token
link_tokens = Plain ∷ Plain ∷ Linked (0 ∷ 1 ∷ []) ∷ []

-- a root that checks the link, its own token
abbrev pub link_graph : TaskGraph
link_graph = with_tokens link_tokens (graph (with_token 2 (root (Check 2 ⨾ Nothing)) ∷ []))

-- a check of a link whose source is requested acknowledges the cancellation
abbrev pub LinkIsRequestedThroughASource : Type 0
LinkIsRequestedThroughASource =
    Story link_graph []
    (begin 1 0 ⇒ request 1 0 ⇒ step 1 0 ⇒ leave 1 0 ⇒ ended 0 Canceled & complete & holds (claim (ends_in 0 canceled)) & the_end)

-- a link whose source is requested isn't requested again; the other source may be
abbrev pub LinkIsNotRequestedAgain : Type 0
LinkIsNotRequestedAgain =
    Story link_graph []
    (begin 1 0 ⇒ request 1 0 ⇒ requested 2 & unrequested 1 & may_not (request 1 2) & may (request 1 1) & the_end)

-- a link that is requested itself leaves its sources alone, and its task is canceled
abbrev pub LinkLeavesItsSourcesAlone : Type 0
LinkLeavesItsSourcesAlone =
    Story link_graph []
    (request 1 2 ⇒ drop_outside 1 0 ⇒ requested 2 & unrequested 0 & unrequested 1 & ended 0 Canceled & may (request 1 0) & the_end)

-- a task whose token is a link doesn't begin where the second source is requested, and is canceled
abbrev pub SourceCancelsTheTask : Type 0
SourceCancelsTheTask = Story link_graph [] (request 1 1 ⇒ may_not (begin 1 0) & may (drop_outside 1 0) & the_end)

-- a token is quiet
abbrev pub quiet : ℕ → List Given
quiet k = given_quiet k ∷ []

-- a claim about runs in which a link is quiet doesn't speak of one in which a source is requested
abbrev pub QuietLinkHasQuietSources : Type 0
QuietLinkHasQuietSources = Story link_graph [] (request 1 1 ⇒ not_given (quiet 2) & not_given (quiet 1) & given (quiet 0) & the_end)

-- a link of a link, with a source named twice
abbrev pub chain_graph : TaskGraph
chain_graph = with_tokens (Plain ∷ Linked (0 ∷ []) ∷ Linked (1 ∷ 1 ∷ []) ∷ []) (graph (with_token 1 (root (Cancel 0 ⨾ Check 2 ⨾ Nothing)) ∷ with_token 2 (root returns) ∷ []))

-- a cancel statement of a source is one of each link of its links; a check of one that is not the own throws
abbrev pub LinkOfALink : Type 0
LinkOfALink =
    Story chain_graph []
    (begin 1 0 ⇒ step 1 0
    ⇒ requested 0 & requested 1 & requested 2 & may_not (request 1 2) & may_not (begin 2 1)
    & step 1 0 ⇒ leave 1 0 ⇒ drop 1 1 ⇒ ended 0 Faulted & threw 0 (operation_canceled 2) & ended 1 Canceled & the_end)

-- a link in the middle requests those linked to it, and not its source
abbrev pub LinkInTheMiddle : Type 0
LinkInTheMiddle = Story chain_graph [] (request 1 1 ⇒ requested 2 & unrequested 0 & the_end)

-- a body that cancels a source, then throws, ends the runs in which the link is quiet, so a claim about these says
-- nothing of what it does then
abbrev pub CancelOfASourceOfAQuietLink : Type 0
CancelOfASourceOfAQuietLink =
    Story (with_tokens link_tokens (graph (root (Cancel 0 ⨾ Throw 0 ⨾ Nothing) ∷ []))) []
    (begin 1 0 ⇒ given (quiet 2)
    & step 1 0 ⇒ step 1 0 ⇒ leave 1 0 ⇒ ended 0 Faulted & not_given (quiet 2)
    & holds (claim_given (quiet 2) (ends_in 0 ran)) & fails (claim (ends_in 0 ran)) & the_end)
