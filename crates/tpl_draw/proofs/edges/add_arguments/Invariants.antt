use Rattle.std.proofs.Common.{◌≡◌, ◌++◌, map, take}
use Rattle.tpl_draft.specs.Ids.{task_number}
use Rattle.tpl_draw.specs.declared.edge.Tie.TheVariants.{Argument}
use Rattle.tpl_draw.specs.Edges.{from_each}
use Rattle.tpl_draw.proofs.edges.add_arguments.Given as goal

abbrev pub invariant-loop-argument : goal.invariant-loop-argument
invariant-loop-argument l = l.found.items ≡ l.fn.found.items ++ from_each Argument (map task_number (take l.argument-index l.arguments)) l.to.0
