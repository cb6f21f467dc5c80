use Rattle.std.proofs.Common.{◌+◌, ◌<◌, length, map, arith}
use Rattle.tpl_journal.specs.Carried.{numbers_of}
use Rattle.tpl_journal.proofs.PartLemmas.{nothing_written}
use Rattle.tpl_journal.proofs.ReportLemmas.{line_is, line_more, line_stops}
use Rattle.tpl_journal.proofs.report_lines.put_lines.Goals as goal

pub loop-i-init : goal.loop-i-init
loop-i-init g c = nothing_written g.W.Write.contents c.args.to.now

pub returns-in_err-put_line : goal.returns-in_err-put_line
returns-in_err-put_line g c =
    let i = c.loop-i.i in
    let names = c.args.graph.now.names in
    let below : c.loop-i.i < length c.args.graph.now.graph.tasks = omega (arith, c.loop-i-test.true, c.len-i-end.ensures.count) in
    line_stops g.W.Write.contents names c.args.statuses.now c.args.labels.now (map numbers_of c.args.carried.now) _ _ _
    i _ _ _ _ below
    (line_is names c.args.statuses.now c.args.labels.now c.args.carried.now i _ c.index-carried-i.result c.as_slice.result.now (omega (arith, below, c.requires.statuses)) (omega (arith, below, c.requires.carried)) c.index-carried-i.is c.as_slice.ensures.value)
    c.from_residual.ensures.1 c.loop-i.invariant c.in_err-put_line.ensures.err

pub loop-i-preserved : goal.loop-i-preserved
loop-i-preserved g c =
    let i = c.loop-i.i in
    let names = c.args.graph.now.names in
    let below : c.loop-i.i < length c.args.graph.now.graph.tasks = omega (arith, c.loop-i-test.true, c.len-i-end.ensures.count) in
    line_more g.W.Write.contents names c.args.statuses.now c.args.labels.now (map numbers_of c.args.carried.now) _ _ _
    i (i + 1) _ (omega arith)
    (line_is names c.args.statuses.now c.args.labels.now c.args.carried.now i _ c.index-carried-i.result c.as_slice.result.now (omega (arith, below, c.requires.statuses)) (omega (arith, below, c.requires.carried)) c.index-carried-i.is c.as_slice.ensures.value)
    c.loop-i.invariant c.in_ok-put_line.ensures.ok
