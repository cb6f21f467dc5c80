use Rattle.tpl_audit.proofs.RefusedLemmas.{refused_never}
use Rattle.tpl_audit.proofs.standing.replay.Goals as goal

pub unreachable-requires : goal.unreachable-requires
unreachable-requires g c =
    let j = g.C.Core.journal c.args.core.now in
    refused_never j.graph j.inputs c.args.events.now _ c.prefix_is_run.ensures c.in-Err.ensures.refused c.requires.run
