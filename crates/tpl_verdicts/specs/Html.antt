-- The verdicts as a page for a browser.
use Rattle.std.specs.Prelude.{ℕ, List, codes}
use Rattle.tpl_model.specs.declared.rule_set.RuleSet.{RuleSet}
use Rattle.tpl_draft.specs.Named.{Names}
use Rattle.tpl_shown.specs.Shown.{IsDocumentPage}
use Rattle.tpl_verify.specs.declared.verdict.Verdict.{Verdict}
use Rattle.tpl_verdicts.specs.Told.{Told}
use Rattle.tpl_verdicts.specs.Json.{IsJson}
use Rattle.tpl_verdicts.specs.Lines.{IsText}

-- the text is a page that has what the verdicts say as lines, and for its scripts the document's own text with the verdicts as
-- a JSON value
abbrev pub IsHtml : (document : List ℕ) → RuleSet → Names → List Told → List Verdict → List ℕ → Type 0
IsHtml document rules names claims verdicts text =
    (lines : List ℕ) × (json : List ℕ) × IsText names claims verdicts lines × IsJson rules names claims verdicts json
    × IsDocumentPage lines document (codes "verdicts") json text
