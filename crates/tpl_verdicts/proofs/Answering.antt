-- From the answer to what was read and written.
use Rattle.std.proofs.Common.{◌≡◌, ℕ, inl, inr, List, [], ◌∷◌, map, Option, Result, Ok, Err, IfOk, string_bytes, subst}
use Rattle.std.specs.List.{All, AllByRecursion, AllZip}
use Rattle.std.proofs.lemmas.List.Elements.{All-from_recursion, recursion_from_All}
use Rattle.std.specs.declared.alloc.AllocError.{AllocError}
use Rattle.tpl_model.specs.Graph.{TaskGraph}
use Rattle.tpl_model.specs.Claims.{Claim}
use Rattle.tpl_model.specs.declared.rule_set.RuleSet.{RuleSet}
use Rattle.tpl_journal.specs.declared.counting.Counting.{Counting}
use Rattle.tpl_commands.specs.declared.exit.Exit.{Exit}
use Rattle.tpl_commands.specs.declared.exit.Exit.TheVariants.{Success, Failure, Usage, Unreadable, Memory, Device, Fault}
use Rattle.tpl_commands.specs.declared.responding.Answered.{Answered}
use Rattle.tpl_commands.specs.Documents.{NoDocument}
use Rattle.tpl_commands.specs.Responding.{Answers, NoAnswer, Responds, Says}
use Rattle.tpl_commands.specs.Rules.{rules_of}
use Rattle.tpl_reader.proofs.Claimed.{claims_spelled}
use Rattle.tpl_verify.specs.declared.verdict.Verdict.{Verdict}
use Rattle.tpl_verify.specs.declared.verdict.Verdict.TheVariants as verdict
use Rattle.tpl_verify.specs.Verdicts.{HoldsAlways, IsSo, IsVerdict}
use Rattle.tpl_commands.proofs.Responses.{said, unreadable≢, IsYesOrNo}
use Rattle.tpl_reader.specs.Document.{DocumentValue, Spells}
use Rattle.tpl_verdicts.specs.declared.style.Style.{Style}
use Rattle.tpl_verdicts.specs.Answer.{IsExit, IsVerified, Judged, Verified, Verifies}
use Rattle.tpl_verdicts.specs.Words.{SaysHolds, word_of}

-- the answer to bytes that spell no document
pub unread : (depth runs : ℕ) (style : Style) (bytes : List ℕ) (r : Result Answered AllocError) → IfOk r (λ it. NoDocument bytes it.answer.exit (string_bytes it.answer.text)) → IfOk r (λ it. Verifies depth runs style bytes it.answer.exit (string_bytes it.answer.text))
unread depth runs style bytes (Ok it) wrong = inr wrong
unread depth runs style bytes (Err e) wrong = tt

-- what is said where no document is answered is said for each command
says_all : (answers : Answers) (input : List ℕ) (exit : Exit) (text : List ℕ) → Says NoAnswer input exit text → Says answers input exit text
says_all answers input Success text s = absurd s.1
says_all answers input Failure text s = absurd s.1
says_all answers input Usage text s = absurd s
says_all answers input Unreadable text (inl s) = absurd s.1
says_all answers input Unreadable text (inr s) = inr s
says_all answers input Memory text s = s
says_all answers input Device text s = absurd s
says_all answers input Fault text s = absurd s

pub unanswered : {R W : Type 0} (answers : Answers) (remaining : R → Option (List ℕ)) (from_old from_new : Counting R) (contents : W → Option (List ℕ)) (old new : Counting W) (result : Exit) → Responds NoAnswer remaining from_old from_new contents old new result → Responds answers remaining from_old from_new contents old new result
unanswered answers remaining from_old from_new contents old new result (inl it) = inl (it.0, it.1, it.2, it.3, says_all answers it.0 it.1 it.2 it.4, it.5)
unanswered answers remaining from_old from_new contents old new result (inr failed) = inr failed

-- a yes or no answers a document
of_document : (depth runs : ℕ) (style : Style) (bytes text : List ℕ) (exit : Exit) → IsYesOrNo exit → Verifies depth runs style bytes exit text → (doc : DocumentValue) × Spells bytes doc × IsVerified depth runs style bytes doc exit text
of_document depth runs style bytes text exit done (inl it) = it
of_document depth runs style bytes text exit done (inr none) = absurd (unreadable≢ exit done none.2)

pub done_verifies : {R W : Type 0} (remaining : R → Option (List ℕ)) (from_old from_new : Counting R) (contents : W → Option (List ℕ)) (old new : Counting W) (depth runs : ℕ) (style : Style) (result : Exit) → Responds (Verifies depth runs style) remaining from_old from_new contents old new result → IsYesOrNo result → Verified remaining from_old from_new contents old new depth runs style result
done_verifies remaining from_old from_new contents old new depth runs style result responds done =
    let s = said remaining from_old from_new contents old new result (Verifies depth runs style) done responds in
    let d = of_document depth runs style s.input s.text result done s.is in
    record { input = s.input; reads = s.reads; doc = d.0; spelled = d.1; text = s.text; is = d.2; writes = s.writes }

-- ---- the words for the verdicts

-- a claim whose verdict says that it holds does so
held_always : (rules : RuleSet) (g : TaskGraph) (claim : Claim) (v : Verdict) → IsVerdict rules g claim v → SaysHolds (word_of v) → HoldsAlways g claim
held_always rules g claim (verdict.Holds certificate splits empty) is holds = is.always
held_always rules g claim (verdict.Fails run) is holds = absurd cc
held_always rules g claim (verdict.Unknown tried) is holds = absurd cc

each_held : (rules : RuleSet) (g : TaskGraph) (claims : List Claim) (verdicts : List Verdict) → AllZip (IsVerdict rules g) claims verdicts → AllByRecursion SaysHolds (map word_of verdicts) → AllByRecursion (HoldsAlways g) claims
each_held rules g [] [] is holds = tt
each_held rules g [] (v ∷ verdicts) is holds = absurd is
each_held rules g (claim ∷ claims) [] is holds = absurd is
each_held rules g (claim ∷ claims) (v ∷ verdicts) is holds =
    (held_always rules g claim v is.0 holds.0, each_held rules g claims verdicts is.1 holds.1)

-- with success each claim holds
pub success_sound : (rules : RuleSet) (g : TaskGraph) (claims : List Claim) (verdicts : List Verdict) (exit : Exit) → AllZip (IsVerdict rules g) claims verdicts → IsExit (map word_of verdicts) exit → exit ≡ Success → All (HoldsAlways g) claims
success_sound rules g claims verdicts exit is ends success =
    let all = subst (λ (e : Exit). IsExit (map word_of verdicts) e) success ends in
    All-from_recursion (HoldsAlways g) claims (each_held rules g claims verdicts is (recursion_from_All SaysHolds (map word_of verdicts) all.1))

-- ---- the verdicts, whatever they were found by

is_so : (rules : RuleSet) (g : TaskGraph) (claim : Claim) (v : Verdict) → IsVerdict rules g claim v → IsSo g claim v
is_so rules g claim (verdict.Holds certificate splits empty) held = (held.always, held.empty)
is_so rules g claim (verdict.Fails run) fails = fails
is_so rules g claim (verdict.Unknown tried) is = tt

all_so : (rules : RuleSet) (g : TaskGraph) (claims : List Claim) (verdicts : List Verdict) → AllZip (IsVerdict rules g) claims verdicts → AllZip (IsSo g) claims verdicts
all_so rules g [] [] all = tt
all_so rules g [] (v ∷ verdicts) all = absurd all
all_so rules g (claim ∷ claims) [] all = absurd all
all_so rules g (claim ∷ claims) (v ∷ verdicts) all = (is_so rules g claim v all.0, all_so rules g claims verdicts all.1)

pub verified_judges : {R W : Type 0} (remaining : R → Option (List ℕ)) (from_old from_new : Counting R) (contents : W → Option (List ℕ)) (old new : Counting W) (depth runs : ℕ) (style : Style) (result : Exit) → Verified remaining from_old from_new contents old new depth runs style result → Judged remaining from_old from_new contents old new style result
verified_judges remaining from_old from_new contents old new depth runs style result told = record {
  input = told.input;
  reads = told.reads;
  graph = told.doc.graph;
  claims = told.doc.claims;
  spelled = claims_spelled told.input told.doc told.spelled;
  names = told.doc.names;
  verdicts = told.is.verdicts;
  true_of = all_so (rules_of told.doc) told.doc.graph.graph told.doc.claims told.is.verdicts told.is.true_of;
  ends = told.is.ends;
  rules = rules_of told.doc;
  text = told.text;
  says = told.is.says;
  writes = told.writes;
}
