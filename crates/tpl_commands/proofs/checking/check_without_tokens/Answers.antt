use Rattle.tpl_reader.specs.SeenDocument.{doc_of}
use Rattle.tpl_commands.proofs.Checked.{is_check_without_tokens}
use Rattle.tpl_commands.proofs.checking.check_without_tokens.Goals as goal

pub returns : goal.returns
returns c =
    let d = c.deref.ensures.value in
    is_check_without_tokens (doc_of c.args.document.now) c.check.result c.requires.rules (rw d at c.check.ensures.accepted) (rw d at c.check.ensures.sound) (rw d at c.check.ensures.first)
