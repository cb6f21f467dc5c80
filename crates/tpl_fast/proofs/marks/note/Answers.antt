use Rattle.std.proofs.Common.{sym, ap, ◌∙◌, arith}
use Rattle.std.specs.Option.{option_map}
use Rattle.tpl_draft.specs.Ids.{task_number}
use Rattle.tpl_fast.proofs.MarkLemmas.{noted_at}
use Rattle.tpl_fast.proofs.marks.note.Goals as goal

pub returns-in-Some : goal.returns-in-Some
returns-in-Some c = λ n h place_is k.
    let task = sym c.task_of.ensures ∙ ap (option_map task_number) c.in-Some.is in
    noted_at n h c.args.event c.args.marks.now.items _ k c.in-Some.task.0 c.args.place task place_is
    (let lt = c.requires c.in-Some.task.0 task in let ok = c.args.marks.now.ok.0 in omega arith) c.note_at.ensures
