use Rattle.std.proofs.Common.{ℕ, ◌≤◌, subst}
use Rattle.tpl_verify.proofs.VerdictLemmas.{always, certified, one_tree, shallow}
use Rattle.tpl_verify.proofs.certifying.certify.Goals as goal

pub splits_in-splits-requires : goal.splits_in-splits-requires
splits_in-splits-requires c =
    one_tree c.args.question.now.rules c.args.question.now.graph.now.graph c.args.question.now.claim.now c.from_ref-alone.result.now c.in_ok-certificate.certificate c.from_ref-alone.ensures.value c.in_ok-certificate.ensures.accepted

pub returns-clause-certified : goal.returns-clause-certified
returns-clause-certified c =
    certified c.args.question.now.rules c.args.question.now.graph.now.graph c.args.question.now.claim.now c.from_ref-alone.result.now c.in_ok-certificate.certificate c.splits_in-splits.result c.from_ref-alone.ensures.value c.in_ok-certificate.ensures.accepted c.splits_in-splits.ensures

pub returns-clause-shallow : goal.returns-clause-shallow
returns-clause-shallow c =
    let one = one_tree c.args.question.now.rules c.args.question.now.graph.now.graph c.args.question.now.claim.now c.from_ref-alone.result.now c.in_ok-certificate.certificate c.from_ref-alone.ensures.value c.in_ok-certificate.ensures.accepted in
    subst (λ (depth : ℕ). c.splits_in-splits.result ≤ depth) c.splits-depth.ensures.value
    (shallow c.in_ok-certificate.certificate c.splits_in-splits.result c.splits-depth.result one c.splits_in-splits.ensures c.in_ok-certificate.ensures.splits)

pub returns-clause-always : goal.returns-clause-always
returns-clause-always c =
    always c.args.question.now.rules c.args.question.now.graph.now.graph c.args.question.now.claim.now c.from_ref-alone.result.now c.in_ok-certificate.certificate c.sound_by_rules.ensures c.valid_law.ensures.graph c.from_ref-alone.ensures.value c.in_ok-certificate.ensures.accepted
