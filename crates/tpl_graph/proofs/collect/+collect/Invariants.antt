use Rattle.std.proofs.Common.{◌≤◌, length, map}
use Rattle.tpl_graph.specs.Collected.{start_in, owned_in}
use Rattle.tpl_draft.specs.Ids.{task_number}
use Rattle.tpl_graph.proofs.CollectLemmas.{CollectedTo}
use Rattle.tpl_graph.proofs.collect.+collect.Given as goal

abbrev pub invariant-collect-loop-statement : goal.invariant-collect-loop-statement
invariant-collect-loop-statement l =
    record {
      short : length l.tasks ≤ 1024;
      starts : CollectedTo (start_in l.tasks) l.body l.statement-items l.statement-index (map task_number l.fn.starts.items) (map task_number l.starts.items);
      sites : CollectedTo (owned_in l.owner.0) l.body l.statement-items l.statement-index l.fn.sites.items l.sites.items;
    }
