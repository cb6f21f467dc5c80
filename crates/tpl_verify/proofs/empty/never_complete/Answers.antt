use Rattle.tpl_verify.proofs.VerdictLemmas.{never_kept}
use Rattle.tpl_verify.proofs.empty.never_complete.Goals as goal

pub returns-then-has_to_end : goal.returns-then-has_to_end
returns-then-has_to_end c so =
    never_kept c.args.question.now.graph.now.graph c.args.question.now.claim.now.given c.args.task c.requires (c.has_to_end.ensures c.if-has_to_end.true) (c.in_ok-never.ensures so)
