use Rattle.tpl_shown.proofs.Shows.{unread_answer}
use Rattle.tpl_shown.proofs.answering.AuditPageCommand.answer.Goals as goal

pub returns-in-Err-clause-answer : goal.returns-in-Err-clause-answer
returns-in-Err-clause-answer over c = unread_answer c.args.bytes.now c.unread.result c.unread.ensures.answer
