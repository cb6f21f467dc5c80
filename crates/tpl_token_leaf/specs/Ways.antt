-- What all ways to end of a task have, in memory.
use Rattle.std.specs.Prelude.{◌≡◌, Bool, true, Option, Some, None}
use Rattle.tpl_model.specs.declared.finals.Finals.{Finals}
use Rattle.tpl_model.specs.Finals.{has}
use Rattle.tpl_model.specs.Knowledge.{Fact}
use Rattle.tpl_paths.specs.declared.facts.Facts.{Facts}
use Rattle.tpl_paths.specs.Facts.{has_fact}
use Rattle.tpl_model.specs.TokenRules.{Way, way_final}
use Rattle.tpl_laws.specs.RowTests.{implies, each_end}
use Rattle.tpl_token_leaf.specs.declared.ways.Ways.{Ways}

-- the fact holds in each way; each fact does where there is none
abbrev pub holds_in_all : Option Facts → Fact → Bool
holds_in_all None fact = true
holds_in_all (Some facts) fact = has_fact facts fact

-- how each of the ways ends, and what holds in all of them
pub record AreWays (each : (Way → Bool) → Bool) (holds : Fact → Way → Bool) (w : Ways) : Type 0 where
  pub ends : (ends : Finals) → each (λ way. has ends (way_final way)) ≡ each_end (λ f. implies (has w.ends f) (has ends f))
  pub common : (fact : Fact) → each (holds fact) ≡ holds_in_all w.common fact
