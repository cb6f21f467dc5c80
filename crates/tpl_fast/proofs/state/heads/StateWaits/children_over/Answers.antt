use Rattle.std.proofs.Common.{ap, sym, ◌∙◌, map, drop}
use Rattle.std.proofs.lemmas.List.{take_rest, drop-map}
use Rattle.tpl_model.specs.Members.{mem}
use Rattle.tpl_model.specs.Graph.{attached}
use Rattle.tpl_draft.specs.Ids.{task_number}
use Rattle.tpl_fast.specs.Kept.{is_over, all_pass}
use Rattle.tpl_fast.proofs.HeadLemmas.{over_passes, pass_rest, mem_dropped}
use Rattle.tpl_fast.proofs.state.heads.StateWaits.children_over.Goals as goal

pub returns : goal.returns
returns c =
    let j = c.args.self.now in
    let children = c.children-children.result.now in
    let head = c.children_head-head.result in
    c.all_over.ensures
    ∙ (over_passes j (map task_number _)
    ∙ (ap (λ ts. all_pass (is_over j) (map task_number ts)) (take_rest children head)
    ∙ (ap (all_pass (is_over j)) (sym (drop-map task_number head children))
    ∙ (ap (λ xs. all_pass (is_over j) (drop head xs)) c.children-children.ensures.children
    ∙ (pass_rest (is_over j) head (attached j.graph c.args.task.0) c.children_head-head.ensures.over
    ∙ sym (over_passes j (attached j.graph c.args.task.0)))))))

pub all_over-requires : goal.all_over-requires
all_over-requires c = λ x m.
    let children = c.children-children.result.now in
    let head = c.children_head-head.result in
    c.children-children.ensures.within x
    (mem_dropped head (map task_number children) x
    (ap (mem x) (drop-map task_number head children) ∙ (ap (λ ts. mem x (map task_number ts)) (sym (take_rest children head)) ∙ m)))
