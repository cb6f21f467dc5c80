use Rattle.std.proofs.Common.{ap, ◌∙◌, map, ℕ, List}
use Rattle.std.specs.List.{list_any}
use Rattle.std.specs.Prelude.{string_bytes}
use Rattle.tpl_draft.specs.Names.{place}
use Rattle.tpl_draft.specs.Refusals.{is_child_at}
use Rattle.tpl_draft.specs.SeenTasks.{task_of}
use Rattle.tpl_draft.proofs.NamesLemmas.{through_map}
use Rattle.tpl_draft.proofs.refusals.waits_for_child.Goals as goal

pub returns : goal.returns
returns c =
    through_map string_bytes (λ (a : List ℕ). is_child_at (map task_of c.args.tasks.now) (place c.args.declared.now.tasks a)) _ _ c.some_child.ensures
    ∙ ap (list_any (λ (a : List ℕ). is_child_at (map task_of c.args.tasks.now) (place c.args.declared.now.tasks a))) c.waits_for.ensures
