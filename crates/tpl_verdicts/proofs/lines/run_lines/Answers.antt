use Rattle.std.proofs.Common.{◌∙◌, ap, map, refl}
use Rattle.std.specs.Prelude.{string_bytes}
use Rattle.std.proofs.lemmas.List.{map_push}
use Rattle.tpl_verdicts.proofs.lines.run_lines.Goals as goal

pub returns : goal.returns
returns c =
    let lines = c.add_events.new.lines.items in
    let last = c.in_ok-format.field-0 in
    let events = rw c.deref.ensures.value at c.in_ok-add_events.ensures in
    ap (map string_bytes) c.in_ok-push.ensures.items
    ∙ (map_push string_bytes lines last ∙ rw (events, c.in_ok-lines.ensures, c.in_ok-format.ensures.ok) refl)
