use Rattle.std.proofs.Common.{◌∙◌, ap, inl, string_bytes}
use Rattle.tpl_reader.specs.SeenDocument.{doc_of}
use Rattle.tpl_commands.specs.Recorded.{times_of}
use Rattle.tpl_trace.specs.Answer.{traced_exit}
use Rattle.tpl_trace.specs.Trace.{trace_text}
use Rattle.tpl_trace.proofs.Tracing.{other_traces}
use Rattle.tpl_trace.proofs.answering.traced.Goals as goal

pub returns-in_ok-text-in-Run-clause-answer : goal.returns-in_ok-text-in-Run-clause-answer
returns-in_ok-text-in-Run-clause-answer c =
    let doc = doc_of c.args.document in
    let is = rw c.in-Run.is at c.in_ok-events.ensures in
    inl (
      doc,
      c.requires.spelled,
      record {
        events = c.in-Run.events.items;
        run = is.0;
        said = c.in_ok-text-in-Run.ensures ∙ (ap (λ times. trace_text doc.graph times c.as_slice-list.result.now) c.times_of-times.ensures ∙ ap (trace_text doc.graph (times_of doc)) c.as_slice-list.ensures.value);
      },
      c.traced_exit-exit.ensures.ends ∙ ap traced_exit c.as_slice-list.ensures.value,
    )

pub returns-in_ok-answer-in-Other-clause-answer : goal.returns-in_ok-answer-in-Other-clause-answer
returns-in_ok-answer-in-Other-clause-answer c =
    let is = rw c.in-Other.is at c.in_ok-events.ensures in
    let given = c.in_ok-answer-in-Other.answer in
    other_traces c.one_document.ensures.one c.args.bytes.now (doc_of c.args.document) c.in-Other.audit given.exit (string_bytes given.text) c.requires.spelled is.0 is.1 c.in_ok-answer-in-Other.ensures
