-- From the answer that was written to what was read and written.
use Rattle.std.proofs.Common.{◌≡◌, ℕ, ◌≤◌, List, length, Option, Result, Ok, Err, IfOk, codes, string_bytes, refl, sym, subst, inl, inr}
use Rattle.std.specs.Prelude.{◌⊎◌, IsTrue, MatchResult}
use Rattle.std.specs.declared.alloc.AllocError.{AllocError}
use Rattle.tpl_journal.specs.declared.counting.Counting.{Counting}
use Rattle.tpl_journal.specs.Writing.{Writes}
use Rattle.tpl_reader.specs.Document.{DocumentValue, Spells, longest}
use Rattle.tpl_commands.specs.declared.exit.Exit.{Exit}
use Rattle.tpl_commands.specs.declared.exit.Exit.TheVariants.{Success, Failure, Usage, Unreadable, Memory, Device, Fault}
use Rattle.tpl_commands.specs.declared.responding.Answered.{Answered}
use Rattle.tpl_commands.specs.Exit.{is_verdict}
use Rattle.tpl_commands.specs.Documents.{Tells, ToDocument}
use Rattle.tpl_commands.specs.Responding.{Answers, Says, Reads, Puts, Responds}

-- the answer to an input that isn't too long is one of those that say something of it
pub says : (answers : Answers) (input : List ℕ) (exit : Exit) (text : List ℕ) → IsTrue (is_verdict exit) → length input ≤ longest → answers input exit text → Says answers input exit text
says answers input Success text verdict le is = (le, is)
says answers input Failure text verdict le is = (le, is)
says answers input Usage text verdict le is = absurd cc
says answers input Unreadable text verdict le is = inl (le, is)
says answers input Memory text verdict le is = absurd cc
says answers input Device text verdict le is = absurd cc
says answers input Fault text verdict le is = absurd cc

-- the answer to bytes that were read was put
pub put_responds : {R W : Type 0} (answers : Answers) (remaining : R → Option (List ℕ)) (from_old from_new : Counting R) (contents : W → Option (List ℕ)) (old read new : Counting W) (input : List ℕ) (r : Result Answered AllocError) (result : Exit)
    → Reads remaining from_old from_new input → length input ≤ longest → read ≡ old → IfOk r (λ it. answers input it.answer.exit (string_bytes it.answer.text))
    → MatchResult r (λ it. Puts contents read new it.answer.exit (string_bytes it.answer.text) result) (λ e. Puts contents read new Memory (codes "out of memory\n") result)
    → Responds answers remaining from_old from_new contents old new result
put_responds answers remaining from_old from_new contents old read new input (Ok it) result reads le same is puts =
    let given = it.answer in
    inl (input, given.exit, string_bytes given.text, reads, says answers input given.exit (string_bytes given.text) given.verdict le is, subst (λ (w : Counting _). Puts contents w new given.exit (string_bytes given.text) result) same puts)
put_responds answers remaining from_old from_new contents old read new input (Err e) result reads le same is puts =
    inl (input, Memory, codes "out of memory\n", reads, refl, subst (λ (w : Counting _). Puts contents w new Memory (codes "out of memory\n") result) same puts)

-- ---- from a yes or no to what was read and written

abbrev pub IsYesOrNo : Exit → Type 0
IsYesOrNo exit = (exit ≡ Success) ⊎ (exit ≡ Failure)

pub unreadable≢ : (exit : Exit) → IsYesOrNo exit → exit ≡ Unreadable → ⊥
unreadable≢ exit (inl e) f = absurd cc
unreadable≢ exit (inr e) f = absurd cc

device≢ : (exit : Exit) → IsYesOrNo exit → exit ≡ Device → ⊥
device≢ exit (inl e) f = absurd cc
device≢ exit (inr e) f = absurd cc

memory≢ : IsYesOrNo Memory → ⊥
memory≢ (inl e) = cc
memory≢ (inr e) = cc

says_so : (answers : Answers) (input : List ℕ) (exit : Exit) (text : List ℕ) → IsYesOrNo exit → Says answers input exit text → answers input exit text
says_so answers input Success text is s = s.1
says_so answers input Failure text is s = s.1
says_so answers input Usage text is s = absurd s
says_so answers input Unreadable text is s = absurd (unreadable≢ Unreadable is refl)
says_so answers input Memory text is s = absurd (memory≢ is)
says_so answers input Device text is s = absurd s
says_so answers input Fault text is s = absurd s

of_document : (Is : DocumentValue → Exit → List ℕ → Type 0) (input : List ℕ) (exit : Exit) (text : List ℕ) → IsYesOrNo exit → ToDocument Is input exit text → (doc : DocumentValue) × Spells input doc × Is doc exit text
of_document Is input exit text is (inl d) = d
of_document Is input exit text is (inr f) = absurd (unreadable≢ exit is f.2)

module _ {R W : Type 0} (remaining : R → Option (List ℕ)) (from_old from_new : Counting R) (contents : W → Option (List ℕ)) (old new : Counting W) (result : Exit) where
  -- what was read, and the text that was written
  pub record Said (answers : Answers) : Type 0 where
    pub input : List ℕ
    pub reads : Reads remaining from_old from_new input
    pub text : List ℕ
    pub is : answers input result text
    pub writes : Writes contents old new text

  pub said : (answers : Answers) → IsYesOrNo result → Responds answers remaining from_old from_new contents old new result → Said answers
  said answers is (inl p) = go p.5
    where
      go : Puts contents old new p.1 p.2 result → Said answers
      go (inl w) = record {
        input = p.0;
        reads = p.3;
        text = p.2;
        is = says_so answers p.0 result p.2 is (subst (λ (e : Exit). Says answers p.0 e p.2) (sym w.0) p.4);
        writes = w.1;
      }
      go (inr f) = absurd (device≢ result is f.0)
  said answers is (inr f) = absurd (device≢ result is f.0)

  pub tells : (Is : DocumentValue → Exit → List ℕ → Type 0) (Tell : DocumentValue → List ℕ → Type 0) → IsYesOrNo result → ((doc : DocumentValue) (text : List ℕ) → Is doc result text → Tell doc text)
      → Responds (ToDocument Is) remaining from_old from_new contents old new result → Tells Tell remaining from_old from_new contents old new
  tells Is Tell is so responds =
      let s = said (ToDocument Is) is responds in
      let d = of_document Is s.input result s.text is s.is in
      record { input = s.input; reads = s.reads; doc = d.0; spelled = d.1; text = s.text; is = so d.0 s.text d.2; writes = s.writes }
