use Rattle.std.proofs.Common.{◌≡◌, ◌≤◌, ℕ, ap, sym, subst, ◌∙◌, length, map, take}
use Rattle.std.specs.Prelude.{slice_set}
use Rattle.std.proofs.lemmas.List.{length-map, take-map}
use Rattle.tpl_model.specs.Graph.{kind}
use Rattle.tpl_draft.specs.Ids.{task_number}
use Rattle.tpl_draft.specs.Named.{args_of}
use Rattle.tpl_run.specs.Journal.{Journal}
use Rattle.tpl_fast.specs.Kept.{has_ended, all_pass, AreEnded}
use Rattle.tpl_fast.proofs.HeadLemmas.{heads_set}
use Rattle.tpl_fast.proofs.state.State.advance_args.Goals as goal

pub invariant_of-self : goal.invariant_of-self
invariant_of-self c =
    let j = c.args.self.now in
    let places = c.self.inside.ended.items in
    let args = c.args-2.result.now in
    let first = c.args_head.result in
    let head = c.first_unended-head.result in
    let list = args_of (kind j.graph c.args.task.0) in
    let le : head ≤ length list = subst (λ n. head ≤ n) (sym (length-map args task_number) ∙ ap length c.args-2.ensures) c.first_unended-head.ensures.within in
    let taken : (k : ℕ) → all_pass (has_ended j) (map task_number (take k args)) ≡ all_pass (has_ended j) (take k list)
    = λ k. ap (all_pass (has_ended j)) (sym (take-map task_number k args) ∙ ap (take k) c.args-2.ensures) in
    record {
      graph = c.self.invariant.graph;
      names = c.self.invariant.names;
      marks = c.self.invariant.marks;
      tokens = c.self.invariant.tokens;
      ended = subst (λ (x : Journal). AreEnded x (slice_set places c.args.task.0 head)) (sym c.self.view_is)
          (heads_set (length j.graph.tasks) (λ t. args_of (kind j.graph t)) (has_ended j) places c.args.task.0 head
          (subst (λ (x : Journal). AreEnded x places) c.self.view_is c.self.invariant.ended) c.requires le
          (sym (taken head) ∙ c.first_unended-head.ensures.ended (taken first ∙ c.args_head.ensures.ended)));
      over = c.self.invariant.over;
      found = c.self.invariant.found;
    }
