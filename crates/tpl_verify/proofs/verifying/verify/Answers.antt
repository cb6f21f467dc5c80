use Rattle.tpl_verify.proofs.VerdictLemmas.{verdict_more, within_more}
use Rattle.tpl_verify.proofs.verifying.verify.Goals as goal

pub loop-at-preserved : goal.loop-at-preserved
loop-at-preserved c = record {
  verdicts =
      verdict_more c.args.rules c.args.graph.now.graph c.args.claims.now c.loop-at.verdicts.items c.push.new.self.items c.loop-at.at c.index-claims-at.result c.in_ok-verdict.verdict c.loop-at-test.true c.index-claims-at.is c.loop-at.invariant.verdicts c.in_ok-verdict.ensures.verdict c.in_ok-push.ensures.items;
  within =
      within_more c.args.limits.now.depth c.args.limits.now.runs c.loop-at.verdicts.items c.push.new.self.items c.in_ok-verdict.verdict c.loop-at.invariant.within c.in_ok-verdict.ensures.within c.in_ok-push.ensures.items;
}
