-- From what was told claim by claim to the answer that was written.
use Rattle.std.proofs.Common.{Vec, Global, ◌≡◌, ℕ, ◌++◌, Option, List, ◌∙◌, length, map, codes, Result, Ok, Err, ap, inl, inr, refl, sym, subst}
use Rattle.std.proofs.lemmas.List.{length-map}
use Rattle.std.specs.Prelude.{MatchResult, IfOk, string_bytes, ◌≤◌}
use Rattle.std.specs.declared.alloc.AllocError.{AllocError}
use Rattle.tpl_journal.specs.declared.counting.Counting.{Counting}
use Rattle.tpl_journal.specs.Writing.{StopsIn, Writes}
use Rattle.tpl_journal.proofs.PartLemmas.{stopped, then_written}
use Rattle.tpl_model.specs.declared.rule_set.RuleSet.{RuleSet}
use Rattle.tpl_model.specs.Claims.{Claim}
use Rattle.tpl_reader.specs.Document.{DocumentValue, Spells, longest}
use Rattle.tpl_commands.specs.declared.exit.Exit.{Exit}
use Rattle.tpl_commands.specs.declared.exit.Exit.TheVariants.{Success, Failure, Usage, Unreadable, Memory, Device, Fault}
use Rattle.tpl_commands.specs.declared.responding.Answered.{Answered}
use Rattle.tpl_commands.specs.Responding.{Puts, Reads, Says}
use Rattle.tpl_commands.proofs.Responses.{IsYesOrNo, says}
use Rattle.tpl_commands.specs.Rules.{rules_of}
use Rattle.tpl_series.specs.Told.{IsStopped, TellsAll}
use Rattle.tpl_series.specs.declared.stop.Stop.{Stop}
use Rattle.tpl_series.specs.declared.stop.Stop.TheVariants as stop
use Rattle.tpl_series.proofs.ToldLemmas.{stops_behind}
use Rattle.tpl_verify.specs.declared.verdict.Verdict.{Verdict}
use Rattle.tpl_verdicts.specs.declared.style.Style.{Style}
use Rattle.tpl_verdicts.specs.declared.style.Style.TheVariants.{Text}
use Rattle.tpl_verdicts.specs.Answer.{IsExit, IsVerified, Verified, Verifies}
use Rattle.tpl_verdicts.specs.Asked.{AreFirst}
use Rattle.tpl_verdicts.specs.Lines.{sums_line}
use Rattle.tpl_verdicts.specs.Words.{word_of}
use Rattle.tpl_verdicts.specs.declared.word.Word.{Word}
use Rattle.tpl_verdicts.specs.Streaming.{AnswersBytes, BreaksOff, IsStreamed, PutsStop, PutsSums, Streams}
use Rattle.tpl_verdicts.proofs.Answering.{done_verifies, success_sound}
use Rattle.tpl_verdicts.proofs.AskedLemmas.{all_true}

-- a text is put behind one that was written
puts_behind : {W : Type 0} (contents : W → Option (List ℕ)) (a b c : Counting W) (xs ys : List ℕ) (exit result : Exit) → Writes contents a b xs → Puts contents b c exit ys result → Puts contents a c exit (xs ++ ys) result
puts_behind contents a b c xs ys exit result first (inl done) = inl (done.0, then_written contents a b c xs ys first done.1)
puts_behind contents a b c xs ys exit result first (inr stop) = inr (stop.0, stops_behind contents a b c xs ys first stop.1)

module _ {W : Type 0} (contents : W → Option (List ℕ)) (old told new : Counting W) (depth runs : ℕ) (bytes : List ℕ) (doc : DocumentValue) (result : Exit) where
  -- what the verdicts on the first claims of the document are
  abbrev First : List Verdict → List ℕ → Type 0
  First = AreFirst (rules_of doc) depth runs doc.graph doc.claims doc.names

  -- each claim was told, and how many verdicts of each word there are was put
  pub streamed_whole : (words : List Word) → TellsAll First word_of (length doc.claims) contents old told words → PutsSums contents told new words result → IsStreamed contents old new depth runs bytes doc result
  streamed_whole words all (inl put) =
      let verdicts = all.1.values in
      let first = all.1.told.told in
      let lines = all.1.told.text in
      let as_many = sym (ap length all.1.are ∙ length-map verdicts word_of) ∙ all.0 in
      let are = all_true (rules_of doc) depth runs doc.graph doc.claims doc.names verdicts lines as_many first in
      let ends = subst (λ (ws : List Word). IsExit ws put.0) all.1.are put.1 in
      inl (
        put.0,
        lines ++ sums_line (map word_of verdicts),
        record {
          verdicts = verdicts;
          true_of = are;
          within = first.within;
          ends = ends;
          sound = success_sound (rules_of doc) doc.graph.graph doc.claims verdicts put.0 are ends;
          says = (first.entries, first.are_entries, ap (λ (z : List ℕ). z ++ sums_line (map word_of verdicts)) first.says);
        },
        subst (λ (ws : List Word). Puts contents old new put.0 (lines ++ sums_line ws) result) all.1.are
            (puts_behind contents old told new lines (sums_line words) put.0 result all.1.told.writes put.2),
      )
  streamed_whole words all (inr put) = inr (record {
    verdicts = all.1.values;
    lines = all.1.told.text;
    first = all.1.told.told;
    puts = puts_behind contents old told new all.1.told.text (codes "out of memory\n") Memory result all.1.told.writes put;
  })

  -- telling ended before the last claim
  pub streamed_part : (why : Stop) → IsStopped First contents old told why → PutsStop contents told new why result → IsStreamed contents old new depth runs bytes doc result
  streamed_part stop.Memory stopped put = inr (record {
    verdicts = stopped.0;
    lines = stopped.1.text;
    first = stopped.1.told;
    puts = puts_behind contents old told new stopped.1.text (codes "out of memory\n") Memory result stopped.1.writes put;
  })
  streamed_part stop.Device stops put = inr (record {
    verdicts = stops.values;
    lines = stops.text;
    first = stops.told;
    puts = inr (
      put.0,
      subst (λ (w : Counting W). StopsIn contents old w (stops.text ++ codes "out of memory\n")) (sym put.1)
          (stopped contents old told stops.text (codes "out of memory\n") (Err (record {})) (record {}) refl stops.stops).err,
    );
  })

  -- telling ended, and what stands behind was put
  streamed_by : (r : Result (Vec Word Global) Stop) → MatchResult r (λ words. TellsAll First word_of (length doc.claims) contents old told words.items) (IsStopped First contents old told) → MatchResult r (λ words. PutsSums contents told new words.items result) (λ why. PutsStop contents told new why result) → IsStreamed contents old new depth runs bytes doc result
  streamed_by (Ok words) all put = streamed_whole words.items all put
  streamed_by (Err why) stopped put = streamed_part why stopped put

  -- the same, by rules, claims and names that are the document's
  pub streamed : (rules : RuleSet) (claims : List Claim) (names : List (Option (List ℕ))) → rules ≡ rules_of doc → claims ≡ doc.claims → names ≡ doc.names → (r : Result (Vec Word Global) Stop) → MatchResult r (λ words. TellsAll (AreFirst rules depth runs doc.graph claims names) word_of (length claims) contents old told words.items) (IsStopped (AreFirst rules depth runs doc.graph claims names) contents old told) → MatchResult r (λ words. PutsSums contents told new words.items result) (λ why. PutsStop contents told new why result) → IsStreamed contents old new depth runs bytes doc result
  streamed rules claims names of_rules of_claims of_names r telling put =
      let Told : RuleSet → List Claim → List (Option (List ℕ)) → Type 0 = λ x y z. MatchResult r (λ words. TellsAll (AreFirst x depth runs doc.graph y z) word_of (length y) contents old told words.items) (IsStopped (AreFirst x depth runs doc.graph y z) contents old told) in
      streamed_by r (subst (λ z. Told (rules_of doc) doc.claims z) of_names (subst (λ y. Told (rules_of doc) y names) of_claims (subst (λ x. Told x claims names) of_rules telling))) put

-- the answer to a document is one of those that say something of its bytes
says_verified : (depth runs : ℕ) (bytes : List ℕ) (doc : DocumentValue) (exit : Exit) (text : List ℕ) → length bytes ≤ longest → Spells bytes doc → IsVerified depth runs Text bytes doc exit text → Says (Verifies depth runs Text) bytes exit text
says_verified depth runs bytes doc Success text le spelled is = (le, inl (doc, spelled, is))
says_verified depth runs bytes doc Failure text le spelled is = (le, inl (doc, spelled, is))
says_verified depth runs bytes doc Usage text le spelled is = absurd is.ends
says_verified depth runs bytes doc Unreadable text le spelled is = absurd is.ends
says_verified depth runs bytes doc Memory text le spelled is = absurd is.ends
says_verified depth runs bytes doc Device text le spelled is = absurd is.ends
says_verified depth runs bytes doc Fault text le spelled is = absurd is.ends

module _ {W : Type 0} (contents : W → Option (List ℕ)) (old new : Counting W) (depth runs : ℕ) (bytes : List ℕ) (result : Exit) where
  -- an answer as text was written, or it broke off
  pub streamed_answers : (doc : DocumentValue) → length bytes ≤ longest → Spells bytes doc → IsStreamed contents old new depth runs bytes doc result → AnswersBytes contents old new depth runs Text bytes result
  streamed_answers doc le spelled (inl whole) =
      inl (whole.0, whole.1, says_verified depth runs bytes doc whole.0 whole.1 le spelled whole.2, whole.3)
  streamed_answers doc le spelled (inr broke) = inr (refl, doc, spelled, broke)

  -- an answer was written whole
  pub put_answers : (style : Style) (r : Result Answered AllocError) → length bytes ≤ longest → IfOk r (λ it. Verifies depth runs style bytes it.answer.exit (string_bytes it.answer.text))
      → MatchResult r (λ it. Puts contents old new it.answer.exit (string_bytes it.answer.text) result) (λ e. Puts contents old new Memory (codes "out of memory\n") result)
      → AnswersBytes contents old new depth runs style bytes result
  put_answers style (Ok it) le is puts =
      inl (it.answer.exit, string_bytes it.answer.text, says (Verifies depth runs style) bytes it.answer.exit (string_bytes it.answer.text) it.answer.verdict le is, puts)
  put_answers style (Err e) le is puts = inl (Memory, codes "out of memory\n", refl, puts)

module _ {R W : Type 0} (remaining : R → Option (List ℕ)) (from_old from_new : Counting R) (contents : W → Option (List ℕ)) (old new : Counting W) (depth runs : ℕ) (style : Style) (result : Exit) where
  -- what was read was answered
  pub answers_stream : (read : Counting W) (input : List ℕ) → Reads remaining from_old from_new input → length input ≤ longest → read ≡ old → AnswersBytes contents read new depth runs style input result → Streams remaining from_old from_new contents old new depth runs style result
  answers_stream read input reads le same (inl said) =
      inl (inl (input, said.0, said.1, reads, said.2, subst (λ (w : Counting W). Puts contents w new said.0 said.1 result) same said.3))
  answers_stream read input reads le same (inr broke) =
      inr (input, reads, le, broke.0, broke.1, broke.2, subst (λ (w : Counting W). BreaksOff contents w new depth runs broke.1 result) same broke.3)

  -- who is out of memory says neither yes nor no
  silent : (text : List ℕ) → IsYesOrNo result → Puts contents old new Memory text result → ⊥
  silent text (inl well) (inl put) = let other = put.0 in cc
  silent text (inl well) (inr stop) = let other = stop.0 in cc
  silent text (inr ill) (inl put) = let other = put.0 in cc
  silent text (inr ill) (inr stop) = let other = stop.0 in cc

  pub streams_verify : Streams remaining from_old from_new contents old new depth runs style result → IsYesOrNo result → Verified remaining from_old from_new contents old new depth runs style result
  streams_verify (inl responds) done =
      done_verifies remaining from_old from_new contents old new depth runs style result responds done
  streams_verify (inr broke) done =
      let off = broke.6 in absurd (silent (off.lines ++ codes "out of memory\n") done off.puts)
