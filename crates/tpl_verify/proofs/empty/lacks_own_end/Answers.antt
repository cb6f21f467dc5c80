use Rattle.std.proofs.Common.{◌≡◌, sym, ◌∙◌}
use Rattle.tpl_verify.proofs.EmptyLemmas.{own_empty}
use Rattle.tpl_verify.proofs.empty.lacks_own_end.Goals as goal

pub returns-then-never : goal.returns-then-never
returns-then-never c =
    own_empty c.args.question.now.graph.now.graph c.args.question.now.claim.now c.in-Final.task _ (sym c.body.ensures ∙ c.in-Final.is) (c.in_ok-never-in-Final.ensures c.if-never.true)
