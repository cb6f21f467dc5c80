use Rattle.std.proofs.Common.{List, map, sym, subst}
use Rattle.tpl_each.specs.declared.slot.Slot.{Slot}
use Rattle.tpl_each.specs.Ahead.{coming}
use Rattle.tpl_each.specs.Said.{AreSaid}
use Rattle.tpl_each.specs.Slots.{said_of}
use Rattle.tpl_each.proofs.Answered.{came_some, if_err, said_to_all}
use Rattle.tpl_each.proofs.Lists.{map-length}
use Rattle.tpl_each.proofs.batch.serve_batch.Goals as goal

pub returns-clause-served : goal.returns-clause-served
returns-clause-served g c =
    let came = c.gather-ends.ensures.gathers in
    record {
      lines = came.0;
      said = map said_of c.as_slice-answered.result.now;
      answered = subst (λ (all : List Slot). AreSaid (g.C.Command.answers c.args.command.now) came.0 (map said_of all)) (sym c.as_slice-answered.ensures.value)
          (said_to_all (g.C.Command.answers c.args.command.now) came.0 c.gather-ends.new.slots.items c.answer_slots.new.slots.items c.answer_slots.ensures.count came.1 c.answer_slots.ensures.said);
      came = came.2;
      count = sym (map-length said_of c.as_slice-answered.result.now);
      yes = c.all_yes.ensures;
      written = c.in_ok-put_answers.ensures.ok.whole;
    }

pub returns-in_err-put_answers-clause-stopped : goal.returns-in_err-put_answers-clause-stopped
returns-in_err-put_answers-clause-stopped g c =
    let came = c.gather-ends.ensures.gathers in
    if_err c.from_residual.result _ (record {
      lines = came.0;
      said = map said_of c.as_slice-answered.result.now;
      answered = subst (λ (all : List Slot). AreSaid (g.C.Command.answers c.args.command.now) came.0 (map said_of all)) (sym c.as_slice-answered.ensures.value)
          (said_to_all (g.C.Command.answers c.args.command.now) came.0 c.gather-ends.new.slots.items c.answer_slots.new.slots.items c.answer_slots.ensures.count came.1 c.answer_slots.ensures.said);
      came = came_some (coming g.R.Read.remaining c.args.ahead.now c.args.from.now) (coming g.R.Read.remaining c.gather-ends.new.ahead c.gather-ends.new.from) came.0 c.gather-ends.result came.2;
      written = c.in_err-put_answers.ensures.err.front;
    })
