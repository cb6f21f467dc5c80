use Rattle.std.proofs.Common.{subst}
use Rattle.tpl_reader.specs.SeenDocument.{doc_of}
use Rattle.tpl_commands.specs.Checking.{IsCheckOf}
use Rattle.tpl_commands.proofs.Drawn.{shown_by}
use Rattle.tpl_commands.proofs.drawing.shown_endings.Goals as goal

pub returns-in-Ok : goal.returns-in-Ok
returns-in-Ok c =
    let d = c.args.document.now in
    let accepted = subst (IsCheckOf (doc_of d)) c.in-Ok.is c.requires.checked in
    shown_by d c.rules_of.result c.as_slice-claims.result.now c.trees-trees.result.now c.endings_by.result accepted.accepted c.rules_of.ensures c.as_slice-claims.ensures.value c.trees-trees.ensures c.endings_by.ensures
