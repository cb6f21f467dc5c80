use Rattle.std.proofs.Common.{refl}
use Rattle.std.proofs.lemmas.Result.{err_from_is_err_and}
use Rattle.tpl_json.specs.Passes.{each_from}
use Rattle.tpl_json.proofs.Passes.{each_more, each_done, each_fails}
use Rattle.tpl_cert.specs.Seen.{row_of}
use Rattle.tpl_cert.specs.Naming.{row_in}
use Rattle.tpl_cert.proofs.naming.rows_in.Goals as goal

pub loop-row-init : goal.loop-row-init
unfolding each_from
loop-row-init c = rw c.in_ok-found.ensures.items refl

pub returns-in_err-row : goal.returns-in_err-row
returns-in_err-row c =
    let p = err_from_is_err_and c.from_residual-in_err-row.result c.from_residual-in_err-row.ensures.1 in
    rw (p.1, p.2)
    (each_fails (λ k r. row_in c.args.graph.now.names r) row_of c.args.rows.now c.loop-row.row-index c.row-item.result c.loop-row.found.items c.in_err-row.field-0.0 c.loop-row-test.true c.loop-row.invariant
    (rw (← c.row-item.is) c.in_err-row.ensures))

pub loop-row-preserved : goal.loop-row-preserved
loop-row-preserved c =
    rw c.in_ok-push.ensures.items
    (each_more (λ k r. row_in c.args.graph.now.names r) row_of c.args.rows.now c.loop-row.row-index c.row-item.result c.loop-row.found.items c.in_ok-row.row c.loop-row-test.true c.loop-row.invariant
    (rw (← c.row-item.is) c.in_ok-row.ensures))

pub returns : goal.returns
returns c = each_done (λ k r. row_in c.args.graph.now.names r) row_of c.args.rows.now c.loop-row.row-index c.loop-row.found.items c.loop-row-test.false c.loop-row.invariant
