use Rattle.tpl_checker.specs.Assumptions.{assumed_of}
use Rattle.tpl_outline.proofs.OutlineLemmas.{SettledSoFar}
use Rattle.tpl_outline.proofs.pass.outline_under.Given as goal

abbrev pub invariant-loop-stage : goal.invariant-loop-stage
invariant-loop-stage l = SettledSoFar l.tasks (assumed_of l.setting.assumed.now) l.from l.pass.outline
