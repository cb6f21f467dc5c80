use Rattle.std.proofs.Common.{◌∙◌, ◌++◌, ℕ, List, ap, ap₂}
use Rattle.std.specs.Prelude.{flat_map}
use Rattle.tpl_verdicts.specs.Junit.{case_text, closing, opening}
use Rattle.tpl_verdicts.proofs.junit.junit_of.Goals as goal

pub returns : goal.returns
returns c =
    let opened = c.in_ok-text.ensures ∙ ap opening (c.deref.ensures.value ∙ c.in_ok-words.ensures) in
    let cases = c.in_ok-add_cases.ensures ∙ ap₂ (λ (one other : List ℕ). one ++ other) opened (ap (flat_map case_text) c.deref-2.ensures.value) in
    (c.in_ok-entries.entries.items, c.in_ok-entries.ensures, c.in_ok-push_str.ensures.bytes ∙ ap (λ (text : List ℕ). text ++ closing) cases)
