use Rattle.std.proofs.Common.{Some, sym, ap, ◌∙◌}
use Rattle.json.specs.Json.{value}
use Rattle.json.specs.Reads.{token_of}
use Rattle.json.specs.Value.{value_view}
use Rattle.tpl_json.proofs.DataOf.{token_behind, none_behind, read_more, read_last, read_out}
use Rattle.tpl_json.proofs.read.text_read.Goals as goal

pub returns-then-is_some-clause-err : goal.returns-then-is_some-clause-err
returns-then-is_some-clause-err c =
    let j = value_view c.in-Ok-read.value in
    let behind = token_behind token_of c.next.result _ _ c.next.ensures.value c.if-is_some.ensures in
    λ _. read_more c.args.text.now j behind.0 behind.1
    (ap (value 127) (sym c.in-Ok.ensures.ok) ∙ (c.in-Ok-read.ensures.ok ∙ ap (λ ts. Some (j, ts)) behind.2))

pub returns-then-in_range-clause-ok : goal.returns-then-in_range-clause-ok
returns-then-in_range-clause-ok c =
    let j = value_view c.in-Ok-read.value in
    let last = none_behind token_of c.next.result _ _ c.next.ensures.value c.if-is_some.ensures in
    read_last c.args.text.now j
    (ap (value 127) (sym c.in-Ok.ensures.ok) ∙ (c.in-Ok-read.ensures.ok ∙ ap (λ ts. Some (j, ts)) last))
    (sym c.if-in_range.ensures)

pub returns-clause-err : goal.returns-clause-err
returns-clause-err c =
    let j = value_view c.in-Ok-read.value in
    let last = none_behind token_of c.next.result _ _ c.next.ensures.value c.if-is_some.ensures in
    λ _. read_out c.args.text.now j
    (ap (value 127) (sym c.in-Ok.ensures.ok) ∙ (c.in-Ok-read.ensures.ok ∙ ap (λ ts. Some (j, ts)) last))
    (sym c.if-in_range.ensures)
