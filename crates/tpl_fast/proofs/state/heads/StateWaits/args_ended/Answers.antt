use Rattle.std.proofs.Common.{ap, sym, ◌∙◌, map, drop}
use Rattle.std.proofs.lemmas.List.{take_rest, drop-map}
use Rattle.tpl_model.specs.Graph.{kind}
use Rattle.tpl_draft.specs.Ids.{task_number}
use Rattle.tpl_draft.specs.Named.{args_of}
use Rattle.tpl_fast.specs.Kept.{has_ended, all_pass}
use Rattle.tpl_fast.proofs.HeadLemmas.{ended_passes, pass_rest}
use Rattle.tpl_fast.proofs.state.heads.StateWaits.args_ended.Goals as goal

pub returns : goal.returns
returns c =
    let j = c.args.self.now in
    let tasks = c.args-args.result.now in
    let head = c.args_head-head.result in
    let args = args_of (kind j.graph c.args.task.0) in
    c.all_ended.ensures
    ∙ (ended_passes j (map task_number _)
    ∙ (ap (λ ts. all_pass (has_ended j) (map task_number ts)) (take_rest tasks head)
    ∙ (ap (all_pass (has_ended j)) (sym (drop-map task_number head tasks))
    ∙ (ap (λ xs. all_pass (has_ended j) (drop head xs)) c.args-args.ensures
    ∙ (pass_rest (has_ended j) head args c.args_head-head.ensures.ended
    ∙ sym (ended_passes j args))))))
