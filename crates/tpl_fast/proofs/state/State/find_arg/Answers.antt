use Rattle.std.proofs.Common.{sym, subst}
use Rattle.std.specs.Prelude.{slice_set}
use Rattle.tpl_run.specs.Journal.{Journal}
use Rattle.tpl_fast.specs.Kept.{AreFound}
use Rattle.tpl_fast.proofs.HeadLemmas.{found_set}
use Rattle.tpl_fast.proofs.state.State.find_arg.Goals as goal

pub invariant_of-self : goal.invariant_of-self
invariant_of-self c =
    let j = c.args.self.now in
    let marks = c.self.inside.found.items in
    let found = c.some_arg_ended-found.result in
    record {
      graph = c.self.invariant.graph;
      names = c.self.invariant.names;
      marks = c.self.invariant.marks;
      tokens = c.self.invariant.tokens;
      ended = c.self.invariant.ended;
      over = c.self.invariant.over;
      found = subst (λ (x : Journal). AreFound x (slice_set marks c.args.task.0 found)) (sym c.self.view_is)
          (found_set j marks c.args.task.0 found (subst (λ (x : Journal). AreFound x marks) c.self.view_is c.self.invariant.found) c.requires c.some_arg_ended-found.ensures);
    }
