use Rattle.std.proofs.Common.{◌≡◌, take}
use Rattle.std.specs.Prelude.{string_bytes, flat_map}
use Rattle.tpl_verdicts.specs.Junit.{xml}
use Rattle.tpl_verdicts.proofs.junit.joined.Given as goal

abbrev pub invariant-loop-line : goal.invariant-loop-line
invariant-loop-line l = string_bytes l.text ≡ flat_map (λ line. xml (string_bytes line)) (take l.line-index l.lines)
