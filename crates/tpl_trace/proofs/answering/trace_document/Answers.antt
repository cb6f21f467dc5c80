use Rattle.tpl_trace.proofs.Tracing.{success_traces}
use Rattle.tpl_trace.proofs.answering.trace_document.Goals as goal

pub returns-clause-traced : goal.returns-clause-traced
returns-clause-traced g c is_success =
    success_traces g.I.Read.remaining c.args.from.now c.respond.new.from g.O.Write.contents c.args.to.now c.respond.new.to c.respond.result c.respond.ensures.responds is_success
