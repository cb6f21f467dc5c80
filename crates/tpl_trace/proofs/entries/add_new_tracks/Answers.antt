use Rattle.std.proofs.lemmas.Result.{on_ok_weaker}
use Rattle.tpl_trace.proofs.EntryLemmas.{both_tracks}
use Rattle.tpl_trace.proofs.entries.add_new_tracks.Goals as goal

pub returns : goal.returns
returns c =
    on_ok_weaker c.add_body_track.result (λ added. both_tracks c.args.run.graph.now c.args.run.events.now _ c.args.event _ _ _ c.in_ok-add_new_track.ensures added) c.add_body_track.ensures
