use Rattle.std.proofs.Common.{arith, refl}
use Rattle.tpl_graph.proofs.SameLemmas.{one_mapped, all_mapped, differ_mapped}
use Rattle.tpl_graph.proofs.same.same_lists.Goals as goal

pub returns-then-not-same : goal.returns-then-not-same
returns-then-not-same g c =
    (λ e. cc, λ e. absurd (differ_mapped g.T.Same.shown _ _ c.loop-i.i _ _ (omega (arith, c.loop-i-test.true)) c.index-left-i.is c.index-right-i.is (λ same. let yes = c.same.ensures.1 same in let no = c.if-not-same.true in cc) c.loop-i.invariant e))

pub loop-i-preserved : goal.loop-i-preserved
loop-i-preserved g c = one_mapped g.T.Same.shown _ _ c.loop-i.i _ _ (omega (arith, c.loop-i-test.true)) c.index-left-i.is c.index-right-i.is (let yes = c.if-not-same.false in c.same.ensures.0 (cc)) c.loop-i.invariant

pub returns : goal.returns
returns g c = (λ _. all_mapped g.T.Same.shown _ _ c.loop-i.i (omega (arith, c.loop-i-test.false)) c.loop-i.invariant, λ _. refl)
