use Rattle.std.proofs.Common.{ap, ◌∙◌, map, nat_lt, length}
use Rattle.std.specs.List.{list_any}
use Rattle.tpl_draft.specs.Draft.{Token, linked_to}
use Rattle.tpl_draft.specs.SeenTasks.{token_of}
use Rattle.tpl_draft.proofs.NamesLemmas.{through_map}
use Rattle.tpl_draft.proofs.too_many.sources_exceed.Goals as goal

pub returns : goal.returns
returns c =
    through_map token_of (λ (k : Token). nat_lt 32 (length (linked_to k.linked))) c.deref.result.now _ c.some_linked_to_many.ensures
    ∙ ap (λ l. list_any (λ (k : Token). nat_lt 32 (length (linked_to k.linked))) (map token_of l)) c.deref.ensures.value
