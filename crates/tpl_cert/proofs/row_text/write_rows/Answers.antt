use Rattle.std.proofs.lemmas.Result.{err_from_is_err_and}
use Rattle.std.proofs.lemmas.List.{map-id}
use Rattle.tpl_cert.specs.Written.{has_row_ids, row_data, HasRowSets}
use Rattle.tpl_cert.proofs.Ids.{plain_row_at, unwritten_some}
use Rattle.tpl_cert.proofs.Tokens.{one_more, all_written}
use Rattle.tpl_cert.proofs.row_text.write_rows.Goals as goal

pub write_row-requires : goal.write_row-requires
write_row-requires c = λ narrow. rw c.row-item.is (plain_row_at c.args.rows.now c.loop-row.row-index c.row-item.result c.loop-row-test.true (c.requires narrow))

pub returns-in_err-write_row : goal.returns-in_err-write_row
returns-in_err-write_row c =
    let p = err_from_is_err_and c.from_residual-in_err-write_row.result c.from_residual-in_err-write_row.ensures.1 in
    rw (p.1, p.2)
    (unwritten_some (has_row_ids c.args.graph.now.names) c.args.rows.now c.loop-row.row-index c.row-item.result c.in_err-write_row.field-0.0 c.loop-row-test.true (rw (← c.row-item.is) c.in_err-write_row.ensures))

pub loop-row-preserved : goal.loop-row-preserved
loop-row-preserved c =
    let e = c.in_ok-write_row.ensures in
    let n = c.args.graph.now.names in
    one_more (λ r. r) (has_row_ids n) HasRowSets (row_data c.args.rules n) c.args.rows.now c.loop-row.row-index c.row-item.result _ c.loop-row.out c.write_row.new.out c.loop-row-test.true c.loop-row.invariant
    (rw (← c.row-item.is) e.0) (rw (← c.row-item.is) e.1.1) (rw (← c.row-item.is) e.1.0)

pub returns : goal.returns
returns c =
    let n = c.args.graph.now.names in
    let all = rw map-id at (all_written (λ r. r) (has_row_ids n) HasRowSets (row_data c.args.rules n) c.args.rows.now c.loop-row.row-index c.args.out.now c.begin_array.new.self c.loop-row.out c.end_array.new.self c.loop-row-test.false c.loop-row.invariant (c.begin_array.ensures.room.0, c.in_ok-begin_array.ensures.ok) (c.end_array.ensures.room.0, c.in_ok-end_array.ensures.ok)) in
    (all.known, (all.puts, all.are))
