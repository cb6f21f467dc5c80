use Rattle.std.proofs.Common.{◌≡◌}
use Rattle.std.specs.Prelude.{flat_map}
use Rattle.std.specs.String.{string_bytes}
use Rattle.tpl_reasons.specs.Hidden.{IsShown}
use Rattle.tpl_reasons.specs.Spelling.{shown_letter}
use Rattle.tpl_reasons.proofs.shown.shown.Given as goal

abbrev pub invariant-loop-letter : goal.invariant-loop-letter
invariant-loop-letter l = record {
  shown : IsShown (string_bytes l.shown);
  spelled : string_bytes l.shown ≡ flat_map shown_letter l.yielded;
}
