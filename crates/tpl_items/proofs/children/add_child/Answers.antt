use Rattle.std.proofs.Common.{◌∙◌, ap, map}
use Rattle.std.proofs.lemmas.List.{map-append}
use Rattle.tpl_draft.specs.Ids.{task_number}
use Rattle.tpl_items.proofs.ChildLemmas.{pushed}
use Rattle.tpl_items.proofs.children.add_child.Goals as goal

pub returns : goal.returns
returns c =
    pushed c.args.lists.now.items c.index_mut.result.now c.push.new.self (λ l. map task_number l.items) c.args.graph.now.graph c.args.number c.in-Some.parent.0
    c.valid_law.ensures.graph c.requires.task c.in-Some.ensures.parent c.requires.lists c.index_mut.ensures.value
    (ap (map task_number) c.in_ok-push.ensures.items ∙ map-append task_number c.index_mut.result.now.items _)
