use Rattle.std.proofs.Common.{ap, ◌∙◌}
use Rattle.std.specs.List.{list_any}
use Rattle.std.specs.Prelude.{string_bytes}
use Rattle.tpl_draft.specs.Refusals.{lacks}
use Rattle.tpl_draft.proofs.NamesLemmas.{through_map}
use Rattle.tpl_draft.proofs.refusals.lacks_waited.Goals as goal

pub returns : goal.returns
returns c =
    through_map string_bytes (lacks c.args.declared.now.tasks) _ _ c.lacks_some.ensures ∙ ap (list_any (lacks c.args.declared.now.tasks)) c.waits_for.ensures
