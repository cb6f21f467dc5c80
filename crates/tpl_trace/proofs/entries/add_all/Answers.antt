use Rattle.std.proofs.Common.{refl}
use Rattle.std.proofs.Math.Numerals.{add-one}
use Rattle.tpl_trace.proofs.EntryLemmas.{marks_more}
use Rattle.tpl_trace.proofs.entries.add_all.Goals as goal

pub loop-before-preserved : goal.loop-before-preserved
loop-before-preserved c =
    rw add-one (marks_more c.args.run.graph.now c.args.times.now c.args.run.events.now c.loop-before.before _ _ _ _ _ _ c.loop-before-test.true refl c.loop-before.invariant c.in_ok-add_new_tracks.ensures (rw (c.track_in-track.ensures, c.time_of-time.ensures) at c.in_ok-add_marks.ensures))
