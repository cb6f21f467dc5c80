use Rattle.tpl_run.proofs.TableLemmas.{all_false}
use Rattle.tpl_run.proofs.tokens.none_requested.Goals as goal

pub returns-clause-off : goal.returns-clause-off
returns-clause-off c = λ k. all_false 32 k
