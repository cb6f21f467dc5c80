use Rattle.std.proofs.Common.{◌≡◌, ◌<◌, ◌∙◌, length, sym, arith}
use Rattle.tpl_checker.proofs.CompleteLemmas.{next_not_stuck, none_stuck, stuck_there}
use Rattle.tpl_model.specs.Certificate.{plain}
use Rattle.tpl_checker.proofs.property.none_complete.Goals as goal

pub returns-then-is_stuck : goal.returns-then-is_stuck
returns-then-is_stuck c =
    let g = c.args.graph.now.graph in
    let lt : c.loop-number.number < length g.tasks = omega arith in
    stuck_there g (plain c.args.rows.now) c.loop-number.number lt (sym c.is_stuck.ensures ∙ c.if-is_stuck.true)

pub loop-number-preserved : goal.loop-number-preserved
loop-number-preserved c =
    next_not_stuck c.args.graph.now.graph (plain c.args.rows.now) c.loop-number.number (sym c.is_stuck.ensures ∙ c.if-is_stuck.false) c.loop-number.invariant

pub returns : goal.returns
returns c =
    let g = c.args.graph.now.graph in
    let all : c.loop-number.number ≡ length g.tasks = omega arith in
    none_stuck g (plain c.args.rows.now) c.loop-number.number all c.loop-number.invariant
