use Rattle.tpl_report.proofs.AskLemmas.{marked_asked}
use Rattle.tpl_report.proofs.requests.have_asked.Goals as goal

pub returns : goal.returns
returns c marked =
    marked_asked c.args.graph.now.graph c.args.events.now c.requested_in.result c.close-closed.result c.args.token.0 c.valid_law.ensures.graph.tokens c.requires c.requested_in.ensures.exact c.requested_in.ensures.many c.close-closed.ensures marked
