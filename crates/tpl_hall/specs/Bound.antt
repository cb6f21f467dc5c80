-- Who did the events of a journal, whose first event stands first.
use Rattle.std.specs.Prelude.{ℕ, zero, suc, List, Option, None, slice_get}
use Rattle.std.specs.Option.{option_map}
use Rattle.tpl_model.specs.declared.ids.Worker.{Worker}
use Rattle.tpl_model.specs.declared.status.Actor.{Actor}
use Rattle.tpl_model.specs.declared.event.Event.{Event}

-- the number of a worker
abbrev pub worker_number : Worker → ℕ
worker_number w = w.0

-- who did the event at a place, counted from 1; nobody at place 0
abbrev pub actor_at : List Event → ℕ → Option Actor
actor_at journal zero = None
actor_at journal (suc n) = option_map (λ e. e.actor) (slice_get journal n)
