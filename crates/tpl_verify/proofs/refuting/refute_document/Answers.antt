use Rattle.tpl_verify.proofs.Answering.{failure_refutes, failure_shows, success_finds_none}
use Rattle.tpl_verify.proofs.refuting.refute_document.Goals as goal

pub returns-clause-fails : goal.returns-clause-fails
returns-clause-fails g c is_failure =
    failure_shows g.I.Read.remaining c.args.from.now c.respond.new.from g.O.Write.contents c.args.to.now c.respond.new.to c.args.search.claim c.respond.result c.respond.ensures.responds is_failure

pub returns-clause-refuted : goal.returns-clause-refuted
returns-clause-refuted g c is_failure =
    failure_refutes g.I.Read.remaining c.args.from.now c.respond.new.from g.O.Write.contents c.args.to.now c.respond.new.to c.args.search.claim c.respond.result c.respond.ensures.responds is_failure

pub returns-clause-unrefuted : goal.returns-clause-unrefuted
returns-clause-unrefuted g c is_success =
    success_finds_none g.I.Read.remaining c.args.from.now c.respond.new.from g.O.Write.contents c.args.to.now c.respond.new.to c.args.search.claim c.respond.result c.respond.ensures.responds is_success
