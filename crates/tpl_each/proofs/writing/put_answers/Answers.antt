use Rattle.std.proofs.Common.{◌∙◌, ap, map, sym, subst, append-nil}
use Rattle.std.proofs.lemmas.List.{take_all}
use Rattle.tpl_journal.specs.Writing.{Writes}
use Rattle.std.proofs.lemmas.Result.{err_from_is_err_and}
use Rattle.tpl_journal.proofs.PartLemmas.{as_text, nothing_written, stopped, then_text, then_written}
use Rattle.tpl_each.specs.Said.{numbered}
use Rattle.tpl_each.specs.Slots.{said_of}
use Rattle.tpl_each.proofs.Written.{around_slot, with_slot}
use Rattle.tpl_each.proofs.writing.put_answers.Goals as goal

pub loop-at-init : goal.loop-at-init
loop-at-init g c = nothing_written g.W.Write.contents c.args.to.now

pub returns-in_err-write_text : goal.returns-in_err-write_text
returns-in_err-write_text g c =
    let p = err_from_is_err_and c.from_residual.result c.from_residual.ensures.1 in
    as_text g.W.Write.contents _ _ _ _ _
    (around_slot c.args.slots.now c.args.number c.loop-at.at c.index-slots-at.result c.loop-at-test.true c.index-slots-at.is c.exit.result c.text.result.now c.exit.ensures c.text.ensures)
    (then_text g.W.Write.contents _ _ _ _ _ _ c.loop-at.invariant (stopped g.W.Write.contents _ _ _ _ c.from_residual.result p.0 p.1 (rw (c.as_str.ensures.value ∙ c.head-head.ensures) at c.in_err-write_text.ensures.err)))

pub loop-at-preserved : goal.loop-at-preserved
loop-at-preserved g c =
    subst (Writes g.W.Write.contents c.args.to.now c.write_text.new.to)
    (sym (with_slot c.args.slots.now c.args.number c.loop-at.at c.index-slots-at.result c.loop-at-test.true c.index-slots-at.is c.exit.result c.text.result.now c.exit.ensures c.text.ensures))
    (then_written g.W.Write.contents _ _ _ _ _ c.loop-at.invariant (rw (c.as_str.ensures.value ∙ c.head-head.ensures) at c.in_ok-write_text.ensures.ok))

pub returns : goal.returns
returns g c =
    let whole = ap (λ slots. numbered c.args.number (map said_of slots)) (take_all c.loop-at.at c.args.slots.now c.loop-at-test.false) in
    as_text g.W.Write.contents _ _ _ _ _ (append-nil _ ∙ whole)
    (then_text g.W.Write.contents _ _ _ _ _ _ c.loop-at.invariant c.write_whole.ensures)
