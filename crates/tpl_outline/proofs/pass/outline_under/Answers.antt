use Rattle.std.proofs.Common.{◌≡◌, true, sym, ◌∙◌, subst}
use Rattle.tpl_model.specs.Members.{mem}
use Rattle.tpl_checker.specs.Assumptions.{assumed_of}
use Rattle.tpl_outline.proofs.OutlineLemmas.{settled_more}
use Rattle.tpl_outline.proofs.pass.outline_under.Goals.{then-contains, else-contains}
use Rattle.tpl_outline.proofs.pass.outline_under.Goals as goal

pub loop-stage-preserved : goal.loop-stage-preserved
loop-stage-preserved c = elim c.if-contains.branch [
  | then-contains w ↦
      let member = subst (λ t. mem t c.args.tasks.now ≡ true) c.task.ensures (sym c.contains.ensures.member ∙ w.if-contains.true) in
      rw w.pass-is (settled_more c.args.tasks.now (assumed_of c.args.setting.assumed.now) c.args.from.now c.loop-stage.pass.outline _ _ member c.loop-stage.invariant w.take.ensures.others w.take.ensures.ends)
  | else-contains w ↦ rw w.pass-is c.loop-stage.invariant
]
