use Rattle.std.proofs.Common.{◌≤◌, length, refl, ap, sym, ◌∙◌, arith, nat_eq, slice_index_or}
use Rattle.tpl_laws.specs.RowTests.{implies}
use Rattle.tpl_checker.proofs.Basics.{drop_all}
use Rattle.tpl_token_leaf.specs.Leaf.{assumed_in}
use Rattle.tpl_token_leaf.proofs.TokenChainLemmas.{all_alone, alone_still, not_alone}
use Rattle.tpl_token_leaf.proofs.chain.wins_alone.Goals as goal

pub loop-arg-init : goal.loop-arg-init
loop-arg-init c = record { same = refl }

pub returns-then-not-implies : goal.returns-then-not-implies
returns-then-not-implies c =
    not_alone ((assumed_in c.args.leaf.now).wins c.args.task.0) c.args.argument.0 c.args.args.now c.loop-arg.arg-index (record { 0 = 0 }) c.loop-arg-test.true c.loop-arg.invariant
    (sym (c.implies.ensures ∙ ap (λ z. implies z (nat_eq (slice_index_or c.args.args.now c.loop-arg.arg-index (record { 0 = 0 })).0 c.args.argument.0)) c.may_win.ensures) ∙ c.if-not-implies.true)

pub loop-arg-preserved : goal.loop-arg-preserved
loop-arg-preserved c =
    alone_still ((assumed_in c.args.leaf.now).wins c.args.task.0) c.args.argument.0 c.args.args.now c.loop-arg.arg-index (record { 0 = 0 }) c.loop-arg-test.true c.loop-arg.invariant
    (sym (c.implies.ensures ∙ ap (λ z. implies z (nat_eq (slice_index_or c.args.args.now c.loop-arg.arg-index (record { 0 = 0 })).0 c.args.argument.0)) c.may_win.ensures) ∙ c.if-not-implies.false)

pub returns : goal.returns
returns c =
    let past : length c.args.args.now ≤ c.loop-arg.arg-index = omega arith in
    all_alone ((assumed_in c.args.leaf.now).wins c.args.task.0) c.args.argument.0 c.args.args.now c.loop-arg.arg-index (drop_all c.args.args.now c.loop-arg.arg-index past) c.loop-arg.invariant
