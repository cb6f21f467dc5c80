use Rattle.std.proofs.Common.{map, Some, sym, ap, ◌∙◌}
use Rattle.json.proofs.Trees.{view-Array}
use Rattle.tpl_json.specs.Members.{list_in}
use Rattle.tpl_json.specs.View.{data_of, view}
use Rattle.tpl_json.proofs.DataOf.{elements_view}
use Rattle.tpl_json.proofs.members.list_of.Goals as goal

pub returns-in-Array-clause-gives : goal.returns-in-Array-clause-gives
returns-in-Array-clause-gives c =
    ap (λ v. list_in (view v)) c.in-Array.is ∙ ap (λ j. list_in (data_of j)) (view-Array c.in-Array.list)
    ∙ ap Some (elements_view c.in-Array.list.items) ∙ ap (λ vs. Some (map view vs)) (sym c.as_slice.ensures.value)
