use Rattle.std.proofs.Common.{◌≡◌, ◌≤◌, length, map, take}
use Rattle.tpl_graph.specs.Collected.{started}
use Rattle.tpl_draft.specs.Draft.{worked}
use Rattle.tpl_draft.specs.SeenTasks.{task_of}
use Rattle.tpl_graph.specs.Starters.{numbers}
use Rattle.tpl_graph.proofs.OwnerLemmas.{AddedUpTo}
use Rattle.tpl_graph.proofs.starters.all_starts.Given as goal

abbrev pub invariant-loop-t : goal.invariant-loop-t
invariant-loop-t l = record {
  names : length l.names ≤ 1024;
  made : map numbers l.starts.items ≡ map (λ x. started l.names (worked (task_of x).kind).body) (take l.t l.tasks);
  sites : AddedUpTo l.tasks l.t l.fn.sites.items l.sites.items;
}
