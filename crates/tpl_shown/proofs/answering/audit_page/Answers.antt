use Rattle.tpl_shown.proofs.Shows.{audit_shown}
use Rattle.tpl_shown.proofs.answering.audit_page.Goals as goal

pub returns-clause-shown : goal.returns-clause-shown
returns-clause-shown g c done =
    audit_shown g.I.Read.remaining c.args.from.now c.respond.new.from g.O.Write.contents c.args.to.now c.respond.new.to c.respond.result c.respond.ensures.responds done
