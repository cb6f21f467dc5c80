use Rattle.std.proofs.Common.{inl}
use Rattle.tpl_reader.specs.SeenDocument.{doc_of}
use Rattle.tpl_verify.proofs.Answering.{unread}
use Rattle.tpl_verify.proofs.refuting.RefutingCommand.answer.Goals as goal

pub returns-in_ok-answer-in-Ok-clause-answer : goal.returns-in_ok-answer-in-Ok-clause-answer
returns-in_ok-answer-in-Ok-clause-answer over c = inl (doc_of c.in-Ok.document, c.in-Ok.ensures.ok, c.in_ok-answer-in-Ok.ensures)

pub returns-in-Err-clause-answer : goal.returns-in-Err-clause-answer
returns-in-Err-clause-answer over c = unread c.args.self.now.search.claim c.args.bytes.now c.unread.result c.unread.ensures.answer
