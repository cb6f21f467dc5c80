use Rattle.std.proofs.Common.{◌≡◌, ◌≤◌, ℕ, ap, sym, subst, ◌∙◌, length, map, take}
use Rattle.std.specs.Prelude.{slice_set}
use Rattle.std.proofs.lemmas.List.{length-map, take-map}
use Rattle.tpl_model.specs.Graph.{attached}
use Rattle.tpl_draft.specs.Ids.{task_number}
use Rattle.tpl_run.specs.Journal.{Journal}
use Rattle.tpl_fast.specs.Kept.{is_over, all_pass, AreOver}
use Rattle.tpl_fast.proofs.HeadLemmas.{heads_set}
use Rattle.tpl_fast.proofs.state.State.advance_children.Goals as goal

pub invariant_of-self : goal.invariant_of-self
invariant_of-self c =
    let j = c.args.self.now in
    let places = c.self.inside.over.items in
    let children = c.children.result.now in
    let first = c.children_head.result in
    let head = c.first_open-head.result in
    let list = attached j.graph c.args.task.0 in
    let le : head ≤ length list = subst (λ n. head ≤ n) (sym (length-map children task_number) ∙ ap length c.children.ensures.children) c.first_open-head.ensures.within in
    let taken : (k : ℕ) → all_pass (is_over j) (map task_number (take k children)) ≡ all_pass (is_over j) (take k list)
    = λ k. ap (all_pass (is_over j)) (sym (take-map task_number k children) ∙ ap (take k) c.children.ensures.children) in
    record {
      graph = c.self.invariant.graph;
      names = c.self.invariant.names;
      marks = c.self.invariant.marks;
      tokens = c.self.invariant.tokens;
      ended = c.self.invariant.ended;
      over = subst (λ (x : Journal). AreOver x (slice_set places c.args.task.0 head)) (sym c.self.view_is)
          (heads_set (length j.graph.tasks) (attached j.graph) (is_over j) places c.args.task.0 head
          (subst (λ (x : Journal). AreOver x places) c.self.view_is c.self.invariant.over) c.requires le
          (sym (taken head) ∙ c.first_open-head.ensures.over (taken first ∙ c.children_head.ensures.over)));
      found = c.self.invariant.found;
    }
