use Rattle.tpl_cli.proofs.BoxLemmas.{AreFirst, fails_at}
use Rattle.tpl_cli.proofs.boxes.run_boxes.Given as goal

-- the boxes of the sites so far
abbrev pub invariant-loop-number : goal.invariant-loop-number
invariant-loop-number g l = AreFirst (λ x. x.site.0) (λ x. x.may_fail) (fails_at l.document.graph) l.number l.items.items
