use Rattle.std.proofs.Common.{map, take}
use Rattle.tpl_model.specs.Members.{mem}
use Rattle.tpl_model.specs.TaskSet.{IsTaskSet}
use Rattle.tpl_cert.proofs.Names.{Collects}
use Rattle.tpl_cert.proofs.naming.tasks_in.Given as goal

abbrev pub invariant-loop-name : goal.invariant-loop-name
invariant-loop-name l = IsTaskSet l.set × Collects l.graph.names.tasks (map (λ s. s.now) (take l.name-index l.names)) (λ x. mem x l.set)
