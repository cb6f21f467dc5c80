use Rattle.std.proofs.Common.{ap, ◌∙◌}
use Rattle.std.specs.List.{position}
use Rattle.std.specs.Prelude.{string_bytes}
use Rattle.std.specs.Str.{bytes_eq}
use Rattle.tpl_draft.proofs.NamesLemmas.{position-map}
use Rattle.tpl_draft.proofs.names.Names.number.Goals as goal

pub returns-clause-number : goal.returns-clause-number
returns-clause-number c =
    c.get_index_of.ensures.index
    ∙ (position-map string_bytes (bytes_eq c.args.name.now) c.self.inside.set.keys
    ∙ ap (position (bytes_eq c.args.name.now)) c.self.view_is)
