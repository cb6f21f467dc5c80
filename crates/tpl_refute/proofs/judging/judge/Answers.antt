use Rattle.std.proofs.Common.{[], ap, subst, ◌∙◌}
use Rattle.std.specs.List.{All}
use Rattle.tpl_audit.specs.declared.verdict.Verdict.TheVariants.{Run}
use Rattle.tpl_model.specs.Journal.{IsSeat}
use Rattle.tpl_refute.proofs.JudgeLemmas.{judged}
use Rattle.tpl_refute.proofs.judging.judge.Goals as goal

pub returns-then-can_be_written : goal.returns-then-can_be_written
returns-then-can_be_written c =
    let can = c.can_be_written.ensures.0 c.if-can_be_written.true in
    let w = c.in-Run-default-Some-default in
    judged c.args.graph.now.graph c.args.claim.now c.args.inputs c.copy.result c.args.events.items c.as_slice.result.now c.truncate.new.self.items c.from_ref-alone.result.now [] c.audit.result w.complete w.failure w.other_end
    c.prefix_is_run.ensures c.copy.ensures c.as_slice.ensures.value c.from_ref-alone.ensures.value (w.is ∙ ap (λ z. Run w.complete z w.other_end) w.fails-is) c.audit.ensures.verdict
    c.truncate.ensures.items can.0 (subst (All (λ e. IsSeat e.actor)) c.as_slice-in-Run-default-Some-default.ensures.value can.1)
