use Rattle.tpl_each.proofs.Coming.{says_line}
use Rattle.tpl_each.proofs.answering.answer_to.Goals as goal

pub returns-in_ok-answered-in-Whole : goal.returns-in_ok-answered-in-Whole
returns-in_ok-answered-in-Whole g c input kept =
    says_line (g.C.Command.answers c.args.command.now) input c.in-Whole.bytes c.args.line.now c.deref.result.now c.in_ok-answered-in-Whole.answered.answer c.in-Whole.is c.deref.ensures.value kept c.in_ok-answered-in-Whole.ensures.answer
