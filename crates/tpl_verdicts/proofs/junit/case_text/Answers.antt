use Rattle.std.proofs.Common.{◌∙◌, ap}
use Rattle.std.specs.Prelude.{string_bytes, flat_map}
use Rattle.tpl_verdicts.specs.Junit.{outcome_text, xml}
use Rattle.tpl_verdicts.proofs.junit.case_text.Goals as goal

pub returns : goal.returns
returns c =
    let entry = c.args.entry.now in
    let title = c.in_ok-title.ensures ∙ ap xml c.as_str-2.ensures.value in
    let words = c.in_ok-words.ensures ∙ ap xml c.as_str-3.ensures.value in
    let lines = c.in_ok-lines.ensures ∙ ap (flat_map (λ line. xml (string_bytes line))) c.deref.ensures.value in
    let outcome = c.in_ok-outcome.ensures ∙ ap (outcome_text entry.word) (c.as_str.ensures.value ∙ lines) in
    rw (title, words, outcome) at c.format.ensures.ok
