use Rattle.std.proofs.Common.{ap, ◌∙◌, not}
use Rattle.std.specs.List.{list_any}
use Rattle.std.specs.Prelude.{string_bytes}
use Rattle.std.specs.Str.{bytes_eq}
use Rattle.tpl_draft.proofs.NamesLemmas.{list_any-map}
use Rattle.tpl_draft.proofs.names.Names.add.Goals as goal

pub returns-clause-fresh : goal.returns-clause-fresh
returns-clause-fresh c =
    c.in_ok-added.ensures.added
    ∙ ap not (list_any-map string_bytes (bytes_eq (string_bytes c.args.name)) c.self.inside.set.keys
    ∙ ap (list_any (bytes_eq (string_bytes c.args.name))) c.self.view_is)
