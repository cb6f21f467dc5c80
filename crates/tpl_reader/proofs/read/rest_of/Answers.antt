use Rattle.std.proofs.lemmas.Result.{err_from_is_err_and}
use Rattle.tpl_reader.specs.SeenDocument.{spelled_with}
use Rattle.tpl_reader.proofs.Refusals.{claim_refused, tree_refused, start_refused, memory_refused}
use Rattle.tpl_reader.proofs.read.rest_of.Goals as goal

pub returns-in_err-journal-clause-err : goal.returns-in_err-journal-clause-err
returns-in_err-journal-clause-err c =
    let p = err_from_is_err_and c.from_residual.result c.from_residual.ensures.1 in
    rw (p.1, p.2) (λ d times v is. tt)

pub returns-in_err-claims-clause-err : goal.returns-in_err-claims-clause-err
returns-in_err-claims-clause-err c =
    let p = err_from_is_err_and c.from_residual-in_err-claims.result c.from_residual-in_err-claims.ensures.1 in
    rw (p.1, p.2) (λ d times v is. claim_refused (spelled_with c.args.version d c.args.named.now times) c.args.graph.now v is c.in_err-claims.field-0.0 (rw c.deref.ensures.value at c.in_err-claims.ensures.claims))

pub returns-in_err-trees-clause-err : goal.returns-in_err-trees-clause-err
returns-in_err-trees-clause-err c =
    let p = err_from_is_err_and c.from_residual-in_err-trees.result c.from_residual-in_err-trees.ensures.1 in
    rw (p.1, p.2) (λ d times v is. tree_refused (spelled_with c.args.version d c.args.named.now times) c.args.graph.now v is c.in_ok-claims.claims.items (rw c.deref.ensures.value at c.in_ok-claims.ensures.claims) c.in_err-trees.field-0.0 (rw c.rules.ensures at c.in_err-trees.ensures.yields))

pub returns-in_err-start-clause-err : goal.returns-in_err-start-clause-err
returns-in_err-start-clause-err c =
    let p = err_from_is_err_and c.from_residual-in_err-start.result c.from_residual-in_err-start.ensures.1 in
    rw (p.1, p.2) (λ d times v is. start_refused (spelled_with c.args.version d c.args.named.now times) c.args.graph.now v is c.in_ok-claims.claims.items (rw c.deref.ensures.value at c.in_ok-claims.ensures.claims) _ (rw c.rules.ensures at c.in_ok-trees.ensures.yields) c.in_err-start.field-0.0 c.in_err-start.ensures)

pub returns-in_err-names-clause-err : goal.returns-in_err-names-clause-err
returns-in_err-names-clause-err c =
    let p = err_from_is_err_and c.from_residual-in_err-names.result c.from_residual-in_err-names.ensures.1 in
    rw (p.1, p.2) (λ d times v is. memory_refused (spelled_with c.args.version d c.args.named.now times) c.in_err-names.field-0.0 c.in_err-names.ensures.err)

pub returns-in_err-ended-clause-err : goal.returns-in_err-ended-clause-err
returns-in_err-ended-clause-err c =
    let p = err_from_is_err_and c.from_residual-in_err-ended.result c.from_residual-in_err-ended.ensures.1 in
    rw (p.1, p.2) (λ d times v is. memory_refused (spelled_with c.args.version d c.args.named.now times) c.in_err-ended.field-0.0 c.in_err-ended.ensures.err)
