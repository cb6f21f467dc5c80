use Rattle.std.proofs.Common.{◌∙◌, ◌++◌, ap}
use Rattle.std.specs.Prelude.{string_bytes}
use Rattle.tpl_verdicts.specs.Junit.{case_text}
use Rattle.tpl_verdicts.proofs.EntryLemmas.{text_more}
use Rattle.tpl_verdicts.proofs.junit.add_cases.Goals as goal

pub loop-entry-preserved : goal.loop-entry-preserved
loop-entry-preserved c =
    text_more case_text c.args.entries.now c.loop-entry.entry-index c.entry-item.result (string_bytes c.args.text.now) (string_bytes c.loop-entry.text) (string_bytes c.push_str.new.self) c.loop-entry-test.true c.entry-item.is c.loop-entry.invariant
    (c.in_ok-push_str.ensures.bytes ∙ ap (λ z. string_bytes c.loop-entry.text ++ z) (c.as_str.ensures.value ∙ c.in_ok-case_text.ensures))
