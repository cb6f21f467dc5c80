-- What `verify` answers to a document.
use Rattle.std.specs.Prelude.{◌≡◌, ◌<◌, ℕ, List, length, map, Option}
use Rattle.std.specs.List.{All, AllZip}
use Rattle.tpl_model.specs.declared.rule_set.RuleSet.{RuleSet}
use Rattle.tpl_model.specs.Claims.{Claim}
use Rattle.tpl_draft.specs.Named.{Names, Named}
use Rattle.tpl_journal.specs.Writing.{Writes}
use Rattle.tpl_journal.specs.declared.counting.Counting.{Counting}
use Rattle.tpl_reader.specs.Bytes.{behind_mark}
use Rattle.tpl_reader.specs.Document.{DocumentValue, Spells, SpellsClaims}
use Rattle.tpl_commands.specs.declared.exit.Exit.{Exit}
use Rattle.tpl_commands.specs.declared.exit.Exit.TheVariants.{Success, Failure}
use Rattle.tpl_commands.specs.Documents.{ToDocument}
use Rattle.tpl_commands.specs.Rules.{rules_of}
use Rattle.tpl_commands.specs.Responding.{Answers, Reads}
use Rattle.tpl_verify.specs.declared.verdict.Verdict.{Verdict}
use Rattle.tpl_verify.specs.Verdicts.{HoldsAlways, IsSo, IsVerdict, KeepsTo}
use Rattle.tpl_verdicts.specs.declared.style.Style.{Style}
use Rattle.tpl_verdicts.specs.declared.style.Style.TheVariants.{Text, Json, Junit, Html}
use Rattle.tpl_verdicts.specs.Html.{IsHtml}
use Rattle.tpl_verdicts.specs.Json.{IsJson}
use Rattle.tpl_verdicts.specs.Junit.{IsJunit}
use Rattle.tpl_verdicts.specs.Lines.{IsText}
use Rattle.tpl_verdicts.specs.Told.{Told, told}
use Rattle.tpl_verdicts.specs.Words.{SaysHolds, word_of}
use Rattle.tpl_verdicts.specs.declared.word.Word.{Word}

-- there is a claim, and by the words for the verdicts each holds and none is empty
abbrev pub AllHold : List Word → Type 0
AllHold words = (0 < length words) × All SaysHolds words

-- success, where that is so; else failure
abbrev pub IsExit : List Word → Exit → Type 0
IsExit words Success = AllHold words
IsExit words Failure = AllHold words → ⊥
IsExit words exit = ⊥

-- the text says in this style what the verdicts on the claims of a document with this text are, by certificates that are written by
-- these rules
abbrev pub IsStyled : Style → (document : List ℕ) → RuleSet → Names → List Told → List Verdict → List ℕ → Type 0
IsStyled Text document rules names claims verdicts text = IsText names claims verdicts text
IsStyled Json document rules names claims verdicts text = IsJson rules names claims verdicts text
IsStyled Junit document rules names claims verdicts text = IsJunit names claims verdicts text
IsStyled Html document rules names claims verdicts text = IsHtml document rules names claims verdicts text

-- The text says what the verdicts on the claims of the document that the bytes spell are, each of which is true, by certificates
-- with at most so many splits and by so many random runs; with success each claim holds in each run.
pub record IsVerified (depth runs : ℕ) (style : Style) (bytes : List ℕ) (doc : DocumentValue) (exit : Exit) (text : List ℕ) : Type 0 where
  pub verdicts : List Verdict
  pub true_of : AllZip (IsVerdict (rules_of doc) doc.graph.graph) doc.claims verdicts
  pub within : All (KeepsTo depth runs) verdicts
  pub ends : IsExit (map word_of verdicts) exit
  pub sound : exit ≡ Success → All (HoldsAlways doc.graph.graph) doc.claims
  pub says : IsStyled style (behind_mark bytes) (rules_of doc) doc.graph.names (told doc.claims doc.names verdicts) verdicts text

-- the answer of `verify` to bytes, by certificates with at most so many splits and by so many random runs
abbrev pub Verifies : (depth runs : ℕ) → Style → Answers
Verifies depth runs style bytes exit text = ToDocument (IsVerified depth runs style bytes) bytes exit text

-- What was read spells a document, and the verdicts on its claims were written.
pub record Verified {R W : Type 0} (remaining : R → Option (List ℕ)) (from_old from_new : Counting R) (contents : W → Option (List ℕ)) (to_old to_new : Counting W) (depth runs : ℕ) (style : Style) (exit : Exit) : Type 0 where
  pub input : List ℕ
  pub reads : Reads remaining from_old from_new input
  pub doc : DocumentValue
  pub spelled : Spells input doc
  pub text : List ℕ
  pub is : IsVerified depth runs style input doc exit text
  pub writes : Writes contents to_old to_new text

-- What was read spells claims of a graph, and a verdict on each was written, which is true.
pub record Judged {R W : Type 0} (remaining : R → Option (List ℕ)) (from_old from_new : Counting R) (contents : W → Option (List ℕ)) (to_old to_new : Counting W) (style : Style) (exit : Exit) : Type 0 where
  pub input : List ℕ
  pub reads : Reads remaining from_old from_new input
  pub graph : Named
  pub claims : List Claim
  pub spelled : SpellsClaims input graph claims
  pub names : List (Option (List ℕ))
  pub verdicts : List Verdict
  pub true_of : AllZip (IsSo graph.graph) claims verdicts
  pub ends : IsExit (map word_of verdicts) exit
  pub rules : RuleSet
  pub text : List ℕ
  pub says : IsStyled style (behind_mark input) rules graph.names (told claims names verdicts) verdicts text
  pub writes : Writes contents to_old to_new text
