use Rattle.std.proofs.Common.{◌++◌, ◌∙◌, ap, codes}
use Rattle.tpl_commands.proofs.searching.certificate_text.Goals as goal

pub returns-clause-written : goal.returns-clause-written
returns-clause-written c = c.in_ok-push_str.ensures.bytes ∙ ap (λ bytes. bytes ++ codes "\n") c.in_ok-text.ensures.written

pub returns-clause-value : goal.returns-clause-value
returns-clause-value c = rw c.in_ok-text.ensures.written at c.in_ok-text.ensures.value
