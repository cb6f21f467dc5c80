use Rattle.std.proofs.Common.{inl}
use Rattle.tpl_reader.specs.SeenDocument.{doc_of}
use Rattle.tpl_shown.proofs.answering.answer_with.Goals as goal

pub returns-in_ok-answer-in-Ok-clause-answer : goal.returns-in_ok-answer-in-Ok-clause-answer
returns-in_ok-answer-in-Ok-clause-answer c = inl (doc_of c.args.document, c.requires.spelled, c.in_ok-answer-in-Ok.ensures)
