use Rattle.tpl_each.proofs.Written.{first_line, whole_line}
use Rattle.tpl_each.proofs.writing.line_len.Goals as goal

pub returns-in-Some-clause-headed : goal.returns-in-Some-clause-headed
returns-in-Some-clause-headed c before = first_line before c.args.text.now c.in-Some.place c.in-Some.ensures

pub returns-in-None-clause-headed : goal.returns-in-None-clause-headed
returns-in-None-clause-headed c before = whole_line before c.args.text.now c.requires c.in-None.ensures
