use Rattle.std.proofs.Common.{◌≡◌, drop}
use Rattle.tpl_reader.specs.Top.{never_fall}
use Rattle.tpl_reader.proofs.top.never_fall.Given as goal

abbrev pub invariant-loop-time : goal.invariant-loop-time
invariant-loop-time l = never_fall 0 l.times ≡ never_fall l.before (drop l.time-index l.times)
