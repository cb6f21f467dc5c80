-- The definitions that sources cite, passed on from one place. Declares nothing.
pub use Rattle.tpl_trace.specs.Answer.{IsJournalOf, Traced, Traces, traced_exit}
pub use Rattle.tpl_trace.specs.Marks.{arrow_end, arrow_start, instant_mark, process_mark, slice_mark, track_mark}
pub use Rattle.tpl_trace.specs.Trace.{acts_in, arrow_to, arrows_from, body_mark, body_track, crosses, entries, instant, leaves_begun, marks, marks_from, may_end, new_track, new_tracks, outlives, releases, some_may_end, time_of, trace_text, track_in, track_name, track_of, track_of_body}
pub use Rattle.tpl_trace.specs.Turns.{IsTurn, arrow_of, arrows_of, instant_of}
