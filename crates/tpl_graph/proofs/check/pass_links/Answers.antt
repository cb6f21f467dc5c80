use Rattle.tpl_draft.specs.SeenTasks.{draft_of}
use Rattle.tpl_draft.proofs.LeastLemmas.{none_at_all}
use Rattle.tpl_graph.proofs.check.pass_links.Goals as goal

pub returns-clause-valid : goal.returns-clause-valid
returns-clause-valid c = none_at_all (draft_of c.args.draft.now) c.in_ok-pass.ensures.none
