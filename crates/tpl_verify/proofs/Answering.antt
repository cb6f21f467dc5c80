-- From what was found to what was read and written.
use Rattle.std.proofs.Common.{◌≡◌, ℕ, suc, ◌≤◌, ◌++◌, inl, inr, Bool, List, [], ◌∷◌, zero, length, reverse, Option, Some, None, Result, Ok, Err, IfOk, string_bytes, codes, refl, subst, arith}
use Rattle.std.specs.Prelude.{slice_get}
use Rattle.std.specs.declared.alloc.AllocError.{AllocError}
use Rattle.std.proofs.lemmas.List.{length-reverse}
use Rattle.json.specs.Lex.{tokens}
use Rattle.json.specs.Print.{print}
use Rattle.tpl_laws.specs.Runs.{IsBounded, PrefixIsRun}
use Rattle.tpl_laws.specs.ByRules.{SoundByRules}
use Rattle.tpl_laws.specs.Soundness.{Each}
use Rattle.tpl_model.specs.declared.event.Event.{Event}
use Rattle.tpl_model.specs.Claims.{Claim, Holds}
use Rattle.tpl_graph.specs.Kept.{IsNamedGraph}
use Rattle.tpl_draft.specs.Named.{Named}
use Rattle.tpl_journal.specs.declared.counting.Counting.{Counting}
use Rattle.tpl_journal.specs.Lines.{IsJournal, lines, TextIsUnambiguous, FaultIsNoJournal, SpellsRun}
use Rattle.tpl_refute.specs.Refuting.{Refutes}
use Rattle.tpl_reader.specs.Begin.{StartValue}
use Rattle.tpl_reader.specs.Document.{DocumentValue, Spells, longest}
use Rattle.tpl_reader.specs.Laws.{SpellsOneDocument, SpelledHasNoFault}
use Rattle.tpl_reader.proofs.Claimed.{claims_spelled}
use Rattle.tpl_commands.specs.declared.exit.Exit.{Exit}
use Rattle.tpl_commands.specs.declared.exit.Exit.TheVariants.{Success, Failure as Failed}
use Rattle.tpl_commands.specs.declared.responding.Answered.{Answered}
use Rattle.tpl_commands.specs.Documents.{NoDocument}
use Rattle.tpl_commands.specs.Responding.{Responds}
use Rattle.tpl_commands.proofs.Responses.{tells}
use Rattle.tpl_verify.specs.Asking.{IsKnown}
use Rattle.tpl_verify.specs.Filled.{IsTextOf, started}
use Rattle.tpl_verify.specs.Serving.{Refuted, ShowsFailure, Unrefuted}
use Rattle.tpl_verify.specs.Witness.{IsFound, IsSearched, refuted_by, IsRefutation, Searches}
use Rattle.tpl_verify.proofs.Auditing.{audited_so}

-- ---- no certificate is accepted

fails_in : (P : Claim → Type 0) (claims : List Claim) (at : ℕ) (claim : Claim) → slice_get claims at ≡ Some claim → Each P claims → P claim
fails_in P [] at claim e all = absurd cc
fails_in P (c ∷ claims) zero claim e all = let same : c ≡ claim = cc in subst P same all.0
fails_in P (c ∷ claims) (suc at) claim e all = fails_in P claims at claim e all.1

-- ---- the document that is written

-- the laws that say what is known of a run that was found
pub record Laws : Type 0 where
  pub one : SpellsOneDocument
  pub faultless : SpelledHasNoFault
  pub bounded : IsBounded
  pub prefix : PrefixIsRun
  pub spells : SpellsRun
  pub unambiguous : TextIsUnambiguous
  pub no_journal : FaultIsNoJournal
  pub sound : SoundByRules

pub is_journal : (laws : Laws) (n : Named) (claim : Claim) (inputs : List Bool) (events : List Event) → Refutes n.graph claim inputs events → IsJournal n (lines n.names events) events
is_journal laws n claim inputs events refutes = record {
  reads = refl;
  spelled = laws.spells n.graph inputs events refutes.run refutes.seats;
  short = let le = laws.bounded n.graph inputs (reverse events) refutes.run in omega (arith, length-reverse events);
}

pub refuted : (laws : Laws) (asked : Option ℕ) (doc : DocumentValue) (number : ℕ) (inputs : List Bool) (events : List Event) (text : List ℕ) → IsNamedGraph doc.graph → IsFound asked doc number inputs events
    → IsTextOf text (refuted_by doc inputs events) → length text ≤ longest → (json : List ℕ) × (json ≡ print (tokens json)) × (text ≡ json ++ codes "\n") → IsRefutation asked doc text
refuted laws asked doc number inputs events text named found is le printed =
    let journal = is_journal laws doc.graph found.claim inputs events found.refutes in
    let spelled : Spells text (refuted_by doc inputs events) = (le, is) in
    record {
      number = number;
      inputs = inputs;
      events = events;
      found = found;
      spelled = spelled;
      only = λ other also. laws.one text (refuted_by doc inputs events) other spelled also;
      journal = journal;
      audited = audited_so doc found.claim number inputs events found.numbered found.refutes named journal laws.prefix laws.unambiguous laws.no_journal text laws.one laws.faultless spelled;
      unproved = λ rules certificate accepted.
          found.refutes.fails
          (fails_in (λ c. Holds doc.graph.graph c inputs (reverse events)) doc.claims found.numbered.0 found.claim found.numbered.2
          (laws.sound rules doc.graph.graph doc.claims certificate named.graph accepted inputs (reverse events) found.refutes.run));
      json = printed.0;
      compact = printed.1;
      ends = printed.2;
    }

-- ---- the answer to bytes

pub unread : (asked : Option ℕ) (bytes : List ℕ) (r : Result Answered AllocError) → IfOk r (λ it. NoDocument bytes it.answer.exit (string_bytes it.answer.text)) → IfOk r (λ it. Searches asked bytes it.answer.exit (string_bytes it.answer.text))
unread asked bytes (Ok it) wrong = inr wrong
unread asked bytes (Err e) wrong = tt

-- ---- what was read and written

-- the start with these inputs gives them
starts_with : (start : Option StartValue) (inputs : List Bool) → (started start inputs).inputs ≡ inputs
starts_with None inputs = refl
starts_with (Some start) inputs = refl

module _ {R W : Type 0} (remaining : R → Option (List ℕ)) (from_old from_new : Counting R) (contents : W → Option (List ℕ)) (old new : Counting W) (asked : Option ℕ) (result : Exit) (responds : Responds (Searches asked) remaining from_old from_new contents old new result) where
  pub failure_refutes : result ≡ Failed → Refuted remaining from_old from_new contents old new asked
  failure_refutes e = tells remaining from_old from_new contents old new result (IsSearched asked) (IsRefutation asked) (inr e)
      (λ doc text is. subst (λ (x : Exit). IsSearched asked doc x text) e is) responds

  pub failure_shows : result ≡ Failed → ShowsFailure remaining from_old from_new contents old new asked
  failure_shows e =
      let told = failure_refutes e in
      let found = told.is.found in
      let written = told.is.spelled in
      let read = written.1 in
      let shaped = read.2 in
      let is = shaped.2 in
      record {
        input = told.input;
        reads = told.reads;
        graph = told.doc.graph;
        claims = told.doc.claims;
        spelled = claims_spelled told.input told.doc told.spelled;
        number = told.is.number;
        asks = found.asks;
        claim = found.claim;
        numbered = found.numbered;
        inputs = told.is.inputs;
        events = told.is.events;
        refutes = found.refutes;
        text = told.text;
        written = (
          written.0,
          (read.0, read.1, (shaped.0, shaped.1, (is.valid, is.graph, is.claims), (started told.doc.start told.is.inputs, is.start, starts_with told.doc.start told.is.inputs), is.journal)),
        );
        writes = told.writes;
      }

  pub success_finds_none : result ≡ Success → Unrefuted remaining from_old from_new contents old new asked
  success_finds_none e = tells remaining from_old from_new contents old new result (IsSearched asked) (λ doc text. IsKnown (length doc.claims) asked × (text ≡ codes "not refuted\n")) (inl e)
      (λ doc text is. subst (λ (x : Exit). IsSearched asked doc x text) e is) responds
