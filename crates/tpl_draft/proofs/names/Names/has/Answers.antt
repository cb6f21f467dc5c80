use Rattle.std.proofs.Common.{ap, ◌∙◌}
use Rattle.std.specs.List.{list_any}
use Rattle.std.specs.Prelude.{string_bytes}
use Rattle.std.specs.Str.{bytes_eq}
use Rattle.tpl_draft.proofs.NamesLemmas.{list_any-map}
use Rattle.tpl_draft.proofs.names.Names.has.Goals as goal

pub returns : goal.returns
returns c =
    c.contains.ensures
    ∙ (list_any-map string_bytes (bytes_eq c.args.name.now) c.self.inside.set.keys
    ∙ ap (list_any (bytes_eq c.args.name.now)) c.self.view_is)
