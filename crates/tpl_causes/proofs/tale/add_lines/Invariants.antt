use Rattle.std.proofs.Common.{◌≡◌, ◌++◌, map, take}
use Rattle.std.specs.Prelude.{string_bytes}
use Rattle.tpl_causes.specs.Causes.{cause_line}
use Rattle.tpl_causes.proofs.tale.add_lines.Given as goal

abbrev pub invariant-loop-cause : goal.invariant-loop-cause
invariant-loop-cause l =
    map string_bytes l.lines.items ≡ map string_bytes l.fn.lines.items ++ map (cause_line l.word) (take l.cause-index l.causes)
