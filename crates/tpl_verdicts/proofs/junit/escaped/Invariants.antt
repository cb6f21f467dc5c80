use Rattle.std.proofs.Common.{◌≡◌}
use Rattle.std.specs.Prelude.{string_bytes, flat_map}
use Rattle.tpl_verdicts.specs.Junit.{xml_letter}
use Rattle.tpl_verdicts.proofs.junit.escaped.Given as goal

abbrev pub invariant-loop-letter : goal.invariant-loop-letter
invariant-loop-letter l = string_bytes l.escaped ≡ flat_map xml_letter l.yielded
