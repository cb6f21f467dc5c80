-- Facts in memory.
use Rattle.std.specs.Prelude.{Bool}
use Rattle.tpl_model.specs.Members.{mem}
use Rattle.tpl_model.specs.Knowledge.{Fact, IsSettled, IsRequested}
use Rattle.tpl_paths.specs.declared.facts.Facts.{Facts}
use Rattle.tpl_paths.specs.TokenSet.{has_token}

-- the fact is one of these
abbrev pub has_fact : Facts → Fact → Bool
has_fact s (IsSettled x) = mem x s.tasks
has_fact s (IsRequested k) = has_token s.tokens k
