use Rattle.std.proofs.Common.{ap, ◌∙◌, map}
use Rattle.std.specs.List.{list_any}
use Rattle.tpl_draft.specs.Draft.{Token, linked_to}
use Rattle.tpl_draft.specs.SeenTasks.{token_of}
use Rattle.tpl_draft.specs.Refusals.{lacks}
use Rattle.tpl_draft.proofs.NamesLemmas.{through_map}
use Rattle.tpl_draft.proofs.refusals.unknown_in_lists.Goals as goal

pub returns : goal.returns
returns c =
    through_map token_of (λ (k : Token). list_any (lacks c.args.names.now) (linked_to k.linked)) c.deref.result.now _ c.some_lacks_source.ensures
    ∙ ap (λ l. list_any (λ (k : Token). list_any (lacks c.args.names.now) (linked_to k.linked)) (map token_of l)) c.deref.ensures.value
