use Rattle.std.proofs.Common.{◌≡◌, ap, sym, ◌∙◌}
use Rattle.std.specs.Option.{option_map}
use Rattle.tpl_draft.specs.Ids.{task_number}
use Rattle.tpl_fast.proofs.HeadLemmas.{only_parent}
use Rattle.tpl_fast.proofs.state.heads.parent_of.Goals as goal

pub returns-then-child-len : goal.returns-then-child-len
returns-then-child-len c = λ p x lt is parent.
    let same : c.in_ok-child.child.0 ≡ x = (let e = sym (ap (option_map task_number) c.in_ok-child.was) ∙ is in cc) in
    only_parent c.args.graph.now.graph c.in_ok-child.child c.parent_of.result c.valid_law.ensures.graph c.parent_of.ensures.parent c.parent_of.ensures.none p x lt same parent
