use Rattle.std.proofs.Common.{◌+◌, Option, subst}
use Rattle.std.proofs.lemmas.Result.{err_from_is_err_and}
use Rattle.tpl_laws.specs.Verdict.{LeafFault, at_leaf}
use Rattle.tpl_token_check.specs.Faults.{FailingWithTokens}
use Rattle.tpl_token_check.proofs.tree.least_leaf_at.Goals as goal

pub returns-in_err-fault : goal.returns-in_err-fault
returns-in_err-fault c = let p = err_from_is_err_and c.from_residual.result c.from_residual.ensures.1 in rw (p.1, p.2) tt

pub returns : goal.returns
returns c = subst (λ (o : Option LeafFault). FailingWithTokens (at_leaf c.args.check.now.claim c.args.number o) (c.args.number + 1) c.answer.result) c.in_ok-fault.ensures c.answer.ensures
