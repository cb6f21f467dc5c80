use Rattle.std.proofs.Common.{string_bytes}
use Rattle.tpl_reader.specs.SeenDocument.{doc_of}
use Rattle.tpl_shown.proofs.Shows.{unshown_answer}
use Rattle.tpl_shown.proofs.answering.unshown.Goals as goal

pub returns-clause-answer : goal.returns-clause-answer
returns-clause-answer c =
    let given = c.in_ok-answer.answer in
    unshown_answer c.args.bytes.now (doc_of c.args.document) c.args.audit given.exit (string_bytes given.text) c.requires.spelled c.requires.audit c.requires.unread c.in_ok-answer.ensures
