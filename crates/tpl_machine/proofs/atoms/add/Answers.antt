use Rattle.std.proofs.Common.{sym, ◌∙◌, arith}
use Rattle.tpl_machine.proofs.AtomLemmas.{atoms_more, beside_pushed}
use Rattle.tpl_machine.proofs.atoms.add.Goals as goal

pub insert-requires : goal.insert-requires
insert-requires c = omega (arith, c.requires.below, c.requires.members.limit)

pub push_reserved-requires : goal.push_reserved-requires
push_reserved-requires c =
    let out = sym (c.requires.members.same c.args.task.0) ∙ (sym c.contains.ensures.member ∙ c.if-not-contains.true) in
    let less = atoms_more _ _ _ c.requires.members.atoms c.requires.below out in
    omega (arith, less, c.args.tasks.now.ok.0)

pub returns-then-not-contains-clause-members : goal.returns-then-not-contains-clause-members
returns-then-not-contains-clause-members c =
    let out = sym (c.requires.members.same c.args.task.0) ∙ (sym c.contains.ensures.member ∙ c.if-not-contains.true) in
    beside_pushed _ _ _ _ c.args.task c.requires.members c.requires.below out c.insert.ensures.members c.push_reserved.ensures.items c.push_reserved.ensures.capacity
