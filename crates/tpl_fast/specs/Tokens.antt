-- Which tokens an event requests, and which are requested.
use Rattle.std.specs.Prelude.{◌≡◌, ℕ, Bool, false, Option, Some, None, List, length, slice_index_or}
use Rattle.tpl_model.specs.declared.limits.TheConstants.{MOST_TOKENS}
use Rattle.tpl_model.specs.declared.event.Act.{Act}
use Rattle.tpl_model.specs.declared.event.Act.TheVariants.{Request, Step}
use Rattle.tpl_model.specs.declared.event.Event.{Event}
use Rattle.tpl_model.specs.Graph.{TaskGraph, is_token}
use Rattle.tpl_model.specs.Facts.{Rest, requested, requested_itself}
use Rattle.tpl_run.specs.Body.{cancel_of, start_of}

-- the token that an act requests itself, and the child that it starts
abbrev pub asks : Act → (ℕ → Rest) → Option ℕ
asks (Request k) rest = Some k.0
asks (Step t) rest = cancel_of (rest t.0).left
asks act rest = None

abbrev pub starting : Act → (ℕ → Rest) → Option ℕ
starting (Step t) rest = start_of (rest t.0).left
starting act rest = None

-- the tokens that were requested themselves, and those that are requested
pub record AreAsked (g : TaskGraph) (v : List Bool) (h : List Event) (itself closed : List Bool) : Type 0 where
  pub each_itself : (k : ℕ) → is_token g k → slice_index_or itself k false ≡ requested_itself g v h k
  pub each : (k : ℕ) → is_token g k → slice_index_or closed k false ≡ requested g v h k
  pub itself_count : length itself ≡ MOST_TOKENS
  pub count : length closed ≡ MOST_TOKENS
