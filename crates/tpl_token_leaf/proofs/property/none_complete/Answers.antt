use Rattle.std.proofs.Common.{◌≡◌, ◌<◌, ◌∙◌, length, sym, arith}
use Rattle.tpl_model.specs.Certificate.{plain}
use Rattle.tpl_checker.proofs.CompleteLemmas.{next_not_stuck, none_stuck, stuck_there}
use Rattle.tpl_token_leaf.specs.Leaf.{graph_of, rows_in}
use Rattle.tpl_token_leaf.proofs.property.none_complete.Goals as goal

pub returns-then-is_stuck : goal.returns-then-is_stuck
returns-then-is_stuck c =
    let g = graph_of c.args.leaf.now in
    let lt : c.loop-number.number < length g.tasks = omega arith in
    stuck_there g (plain (rows_in c.args.leaf.now)) c.loop-number.number lt (sym c.is_stuck.ensures ∙ c.if-is_stuck.true)

pub loop-number-preserved : goal.loop-number-preserved
loop-number-preserved c =
    next_not_stuck (graph_of c.args.leaf.now) (plain (rows_in c.args.leaf.now)) c.loop-number.number (sym c.is_stuck.ensures ∙ c.if-is_stuck.false) c.loop-number.invariant

pub returns : goal.returns
returns c =
    let g = graph_of c.args.leaf.now in
    let all : c.loop-number.number ≡ length g.tasks = omega arith in
    none_stuck g (plain (rows_in c.args.leaf.now)) c.loop-number.number all c.loop-number.invariant
