use Rattle.std.proofs.Common.{ap, ◌∙◌, not, nat_lt, ℕ, List}
use Rattle.std.specs.List.{list_any}
use Rattle.std.specs.Prelude.{string_bytes}
use Rattle.tpl_draft.specs.Names.{place}
use Rattle.tpl_draft.proofs.NamesLemmas.{through_map}
use Rattle.tpl_draft.proofs.refusals.waits_for_later.Goals as goal

pub returns : goal.returns
returns c =
    through_map string_bytes (λ (a : List ℕ). not (nat_lt (place c.args.declared.now.tasks a) c.args.t)) _ _ c.some_later.ensures
    ∙ ap (list_any (λ (a : List ℕ). not (nat_lt (place c.args.declared.now.tasks a) c.args.t))) c.waits_for.ensures
