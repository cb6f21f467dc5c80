use Rattle.std.proofs.Common.{subst, List}
use Rattle.tpl_model.specs.declared.event.Event.{Event}
use Rattle.tpl_hall.specs.Closes.{AllLast}
use Rattle.tpl_runtime.proofs.closing.judge.Goals as goal

pub returns-in-Ok-clause-closes : goal.returns-in-Ok-clause-closes
returns-in-Ok-clause-closes g c =
    let graph = c.args.graph.now.graph in
    let whole = c.is_whole.ensures.whole c.if-not-is_whole.false in
    let agrees = c.agrees.ensures.0 c.if-not-agrees.false in
    record {
      whole = whole;
      claims = λ rules claims certificate accepts. c.sound_by_rules.ensures rules graph claims certificate c.valid_law.ensures.graph accepts c.args.inputs.now _ whole.run;
      own = agrees.0;
      last = subst (λ (j : List Event). AllLast graph c.args.inputs.now c.args.seats.now j) c.journal.ensures.journal (c.in-Ok-true.ensures.0 c.in-Ok-true.field-0-test).1;
      seats = agrees.2;
      seated = agrees.1;
      told = c.in-Ok.ensures;
    }
