use Rattle.tpl_audit.proofs.FailLemmas.{front_run}
use Rattle.tpl_commands.proofs.drawing.moment.Goals as goal

pub statuses_after-requires : goal.statuses_after-requires
statuses_after-requires c =
    front_run c.args.document.now.graph.graph c.args.inputs c.args.events.now c.place_shown-place.result c.prefix_is_run.ensures c.requires.run
