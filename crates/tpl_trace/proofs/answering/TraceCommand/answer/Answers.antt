use Rattle.tpl_trace.proofs.Tracing.{unread_traces}
use Rattle.tpl_trace.proofs.answering.TraceCommand.answer.Goals as goal

pub returns-in-Err-clause-answer : goal.returns-in-Err-clause-answer
returns-in-Err-clause-answer over c =
    unread_traces c.one_document.ensures.one c.one_document.ensures.faultless c.args.bytes.now c.in-Err.misread.fault c.in-Err.ensures.err c.unread.result c.unread.ensures.reason c.unread.ensures.answer
