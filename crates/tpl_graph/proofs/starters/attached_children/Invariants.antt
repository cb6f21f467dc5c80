use Rattle.std.proofs.Common.{◌≡◌, map, take}
use Rattle.tpl_draft.specs.Ids.{task_number}
use Rattle.tpl_graph.specs.Starters.{numbers, attached_of}
use Rattle.tpl_graph.proofs.starters.attached_children.Given as goal

abbrev pub invariant-loop-child : goal.invariant-loop-child
invariant-loop-child l = numbers l.children ≡ attached_of l.rows l.parent (map task_number (take l.child-index l.starts))
