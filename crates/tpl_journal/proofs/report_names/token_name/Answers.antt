use Rattle.tpl_journal.proofs.NameLemmas.{name_short}
use Rattle.tpl_journal.proofs.report_names.token_name.Goals as goal

pub returns-then-token-token_count-clause-short : goal.returns-then-token-token_count-clause-short
returns-then-token-token_count-clause-short c = name_short c.token_name.result.now (c.valid_law.ensures.tokens_spelled c.args.token.0 c.token_name.result.now c.token_name.ensures)
