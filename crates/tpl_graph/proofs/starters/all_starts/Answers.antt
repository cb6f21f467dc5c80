use Rattle.std.proofs.Common.{arith}
use Rattle.std.proofs.lemmas.Grind.{common_steps}
use Rattle.tpl_graph.specs.Collected.{started}
use Rattle.tpl_draft.specs.Draft.{Task, worked}
use Rattle.tpl_draft.specs.SeenTasks.{task_of}
use Rattle.tpl_draft.proofs.NamesLemmas.{all_named}
use Rattle.tpl_graph.proofs.OwnerLemmas.{one_added, all_added}
use Rattle.tpl_graph.proofs.starters.all_starts.Goals as goal

pub loop-t-preserved : goal.loop-t-preserved
loop-t-preserved c = record {
  names = c.requires.names;
  made = grind (arith, common_steps);
  sites = one_added _ _ _ _ _ _ c.loop-t-test.true c.index-tasks-t.is c.loop-t.invariant.sites c.in_ok-task_starts.ensures.sites;
}

pub returns-clause-starts : goal.returns-clause-starts
returns-clause-starts c = all_named task_of (λ (x : Task). started c.args.names.now (worked x.kind).body) _ _ _ c.loop-t-test.false c.loop-t.invariant.made

pub returns-clause-sites : goal.returns-clause-sites
returns-clause-sites c = all_added _ _ _ _ c.loop-t-test.false c.loop-t.invariant.sites
