use Rattle.std.proofs.Common.{◌≡◌}
use Rattle.tpl_reader.specs.Asked.{with_jobs}
use Rattle.tpl_reader.proofs.asked.with_jobs.Given as goal

abbrev pub invariant-loop-index : goal.invariant-loop-index
invariant-loop-index l = l.given.items ≡ with_jobs l.index l.initial.given.items
