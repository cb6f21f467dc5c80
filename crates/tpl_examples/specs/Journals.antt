-- Journals, and what each actor did.
use Rattle.std.specs.Prelude.{◌≡◌, List, [], ◌∷◌, map, reverse}
use Rattle.tpl_model.specs.Statements.{Cancel, Nothing, ◌⨾◌}
use Rattle.tpl_model.specs.Graph.{TaskGraph, Plain}
use Rattle.tpl_model.specs.declared.event.Event.{Event}
use Rattle.tpl_model.specs.Rules.{Run}
use Rattle.tpl_model.specs.Valid.{IsGraph}
use Rattle.tpl_model.specs.Journal.{own}
use Rattle.tpl_examples.specs.Words.{worker, outside, event, begin, step, leave, request, returns, root, with_token, graph, with_tokens}

-- a root that cancels a token, and a root with this token
abbrev pub shared_graph : TaskGraph
shared_graph = with_tokens (Plain ∷ Plain ∷ []) (graph (root (Cancel 0 ⨾ Nothing) ∷ with_token 0 (root returns) ∷ []))

-- a journal of that graph, whose first event stands first
abbrev pub shared_journal : List Event
shared_journal = map event (begin 1 0 ∷ request 1 1 ∷ begin 2 1 ∷ step 1 0 ∷ step 2 1 ∷ leave 1 0 ∷ leave 2 1 ∷ [])

-- a run is the list of its journal's events with the newest first, and not the journal itself; each event must be
-- allowed after those before it
abbrev pub JournalIsReadBackwards : Type 0
JournalIsReadBackwards =
    IsGraph shared_graph
    × Run shared_graph [] (reverse shared_journal)
    × (Run shared_graph [] shared_journal → ⊥)
    × (Run shared_graph [] (reverse (map event (step 1 0 ∷ begin 1 0 ∷ []))) → ⊥)

-- each actor's own events, with their places in the journal; a worker and an outside seat of the same number are two
abbrev pub OwnEventsOfEachActor : Type 0
OwnEventsOfEachActor =
    (own (worker 1) shared_journal ≡ (1, event (begin 1 0)) ∷ (4, event (step 1 0)) ∷ (6, event (leave 1 0)) ∷ [])
    × (own (worker 2) shared_journal ≡ (3, event (begin 2 1)) ∷ (5, event (step 2 1)) ∷ (7, event (leave 2 1)) ∷ [])
    × (own (outside 1) shared_journal ≡ (2, event (request 1 1)) ∷ [])
    × (own (outside 2) shared_journal ≡ [])
    × (own (worker 3) shared_journal ≡ [])
