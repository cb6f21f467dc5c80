use Rattle.std.proofs.Common.{◌≡◌, ◌-◌, suc, length, ap, ◌∙◌, subst, arith}
use Rattle.tpl_checker.specs.Assumptions.{assumed_of}
use Rattle.tpl_token_leaf.specs.Narrowed.{narrowed_before}
use Rattle.tpl_token_leaf.proofs.narrowing.narrowed.Goals as goal

pub loop-number-preserved : goal.loop-number-preserved
loop-number-preserved c =
    let g = c.args.graph.now.graph in
    let k = c.loop-number.number - 1 in
    let next : c.loop-number.number ≡ suc k = omega arith in
    ap (λ a. narrowed_before g a k) c.narrow_by.ensures
    ∙ subst (λ n. narrowed_before g (assumed_of c.loop-number.narrowed) n ≡ narrowed_before g (assumed_of c.args.assumed.now) (length g.tasks)) next c.loop-number.invariant
