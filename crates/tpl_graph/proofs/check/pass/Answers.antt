use Rattle.std.proofs.Common.{refl}
use Rattle.tpl_draft.specs.SeenTasks.{draft_of}
use Rattle.tpl_draft.specs.Test.{why_of}
use Rattle.tpl_draft.proofs.LeastLemmas.{none_below_next, least, test_named}
use Rattle.tpl_graph.proofs.check.pass.Goals as goal

pub returns-in-Some : goal.returns-in-Some
returns-in-Some c = record {
  none = tt;
  fault = rw c.why_of.ensures (least (draft_of c.args.draft.now) (why_of c.args.test.now) c.in-Some.at (test_named (draft_of c.args.draft.now) c.args.test.now c.in-Some.at) c.requires.before c.in-Some.ensures);
}

pub returns-in-None : goal.returns-in-None
returns-in-None c = record {
  none = none_below_next (draft_of c.args.draft.now) (why_of c.args.test.now) _ refl c.requires.before c.in-None.ensures;
  fault = tt;
}
