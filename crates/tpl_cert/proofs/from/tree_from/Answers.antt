use Rattle.std.proofs.Common.{inr, sym}
use Rattle.std.proofs.lemmas.Result.{err_from_is_err_and}
use Rattle.tpl_json.specs.View.{view}
use Rattle.tpl_cert.specs.Seen.{tree_of}
use Rattle.tpl_cert.proofs.Spelling.{misspelled, misnamed, read_within_them, past_them}
use Rattle.tpl_cert.proofs.from.tree_from.Goals as goal

pub returns-in_err-named-clause-err : goal.returns-in_err-named-clause-err
returns-in_err-named-clause-err c =
    let p = err_from_is_err_and c.from_residual.result c.from_residual.ensures.1 in
    rw (p.1, p.2) (misspelled c.args.rules c.args.graph.now.names (view c.args.value.now) c.in_err-named.field-0.0 c.in_err-named.ensures)

pub returns-in_err-tree-clause-err : goal.returns-in_err-tree-clause-err
returns-in_err-tree-clause-err c =
    let p = err_from_is_err_and c.from_residual-in_err-tree.result c.from_residual-in_err-tree.ensures.1 in
    rw (p.1, p.2) (misnamed c.args.rules c.args.graph.now.names (view c.args.value.now) (tree_of c.in_ok-named.named) c.in_ok-named.ensures c.in_err-tree.field-0.0 c.in_err-tree.ensures)

pub returns-then-is_within_limits-clause-ok : goal.returns-then-is_within_limits-clause-ok
returns-then-is_within_limits-clause-ok c = read_within_them c.args.rules c.args.graph.now.names (view c.args.value.now) (tree_of c.in_ok-named.named) c.in_ok-named.ensures c.in_ok-tree.tree c.in_ok-tree.ensures (sym c.if-is_within_limits.ensures.test)

pub returns-clause-err : goal.returns-clause-err
returns-clause-err c = inr (past_them c.args.rules c.args.graph.now.names (view c.args.value.now) (tree_of c.in_ok-named.named) c.in_ok-named.ensures c.in_ok-tree.tree c.in_ok-tree.ensures (sym c.if-is_within_limits.ensures.test))
