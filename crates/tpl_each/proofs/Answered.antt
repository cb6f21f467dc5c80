-- Lines that were answered.
use Rattle.std.proofs.Common.{◌≡◌, ℕ, suc, ◌+◌, ◌<◌, List, [], ◌∷◌, ◌++◌, length, map, Bool, true, false, Option, Some, None, refl, sym, ap, ◌∙◌, subst, append-nil, ◌⊎◌, inl, inr, arith}
use Rattle.std.specs.Prelude.{IfErr, IfSome, Result, Ok, Err, slice_index_or, ◌&&◌}
use Rattle.std.specs.Io.KnownBytes.{Appends, Consumes, prepend_known}
use Rattle.std.specs.List.{All, list_all}
use Rattle.std.proofs.lemmas.List.Elements.{All-append, All-nil}
use Rattle.tpl_journal.proofs.Known.{consumes_more}
use Rattle.tpl_journal.proofs.WrittenLemmas.{appends_then}
use Rattle.tpl_commands.specs.Responding.{Answers, Says}
use Rattle.tpl_each.specs.declared.slot.Slot.{Slot}
use Rattle.tpl_journal.specs.Writing.{AppendsFront}
use Rattle.tpl_each.specs.declared.gathering.Ends.{Ends}
use Rattle.tpl_each.specs.declared.gathering.Ends.TheVariants.{More, End, Failed, Endless}
use Rattle.tpl_each.specs.Gathering.{AreIn, Came}
use Rattle.tpl_each.specs.Lines.{IsLine, broken, BeginWith, AreLines}
use Rattle.tpl_each.specs.Said.{AreSaid, Said, is_yes, numbered}
use Rattle.tpl_each.specs.Slots.{IsSaidTo, said_of}
use Rattle.tpl_each.proofs.Breaks.{broken-append, lines_then, begin_then}
use Rattle.tpl_each.proofs.Lists.{zip_append}
use Rattle.tpl_each.proofs.Written.{numbered-append, then_front}

-- what is said to the lines of slots
pub said_to_all : (answers : Answers) (lines : List (List ℕ)) (old new : List Slot) → length new ≡ length old → AreIn lines old
    → ((i : ℕ) (d : Slot) → i < length old → IsSaidTo answers (slice_index_or old i d).line (said_of (slice_index_or new i d))) → AreSaid answers lines (map said_of new)
said_to_all answers [] [] [] len are said = tt
said_to_all answers [] [] (n ∷ new) len are said = absurd (omega arith)
said_to_all answers [] (o ∷ old) new len are said = absurd are
said_to_all answers (line ∷ lines) [] new len are said = absurd are
said_to_all answers (line ∷ lines) (o ∷ old) [] len are said = absurd (omega arith)
said_to_all answers (line ∷ lines) (o ∷ old) (n ∷ new) len are said = (
  said 0 o (omega arith) line are.0,
  said_to_all answers lines old new (omega arith) are.1 (λ i d lt. said (suc i) d (omega arith)),
)

-- these lines were read and answered, and more may come
pub record AreAnswered (answers : Answers) (from_old from_now to_old to_now : Option (List ℕ)) (lines : List (List ℕ)) (said : List Said) : Type 0 where
  pub each : All IsLine lines
  pub answered : AreSaid answers lines said
  pub read : Consumes from_old from_now (broken lines)
  pub written : Appends to_old to_now (numbered 1 said)

and_assoc : (a b c : Bool) → (a && (b && c)) ≡ ((a && b) && c)
and_assoc true b c = refl
and_assoc false b c = refl

list_all-append : {A : Type 0} (test : A → Bool) (a b : List A) → list_all test (a ++ b) ≡ (list_all test a && list_all test b)
list_all-append test [] b = refl
list_all-append test (x ∷ a) b = ap (λ z. test x && z) (list_all-append test a b) ∙ and_assoc (test x) (list_all test a) (list_all test b)

pub all_yes-append : (a b : List Said) → list_all (λ (said : Said). is_yes said.exit) (a ++ b) ≡ (list_all (λ (said : Said). is_yes said.exit) a && list_all (λ (said : Said). is_yes said.exit) b)
all_yes-append a b = list_all-append (λ (said : Said). is_yes said.exit) a b

-- nothing was read yet
pub none_answered : (answers : Answers) (from to : Option (List ℕ)) → AreAnswered answers from (prepend_known [] from) to to [] []
none_answered answers from to = record {
  each = All-nil IsLine;
  answered = tt;
  read = nothing_read from;
  written = nothing_written to;
}
  where
    nothing_read : (r : Option (List ℕ)) → Consumes r (prepend_known [] r) []
    nothing_read None = tt
    nothing_read (Some xs) = refl

    nothing_written : (r : Option (List ℕ)) → Appends r r []
    nothing_written None = tt
    nothing_written (Some xs) = sym (append-nil xs)

-- some lines were answered, and then more, which were numbered from where those ended
module _ (answers : Answers) (from_old from_now to_old to_now : Option (List ℕ)) (lines : List (List ℕ)) (said : List Said) (a : AreAnswered answers from_old from_now to_old to_now lines said) where
  -- what is said to the lines and to those behind them
  pub more_said : (new : List (List ℕ)) (more : List Said) → AreSaid answers new more → AreSaid answers (lines ++ new) (said ++ more)
  more_said new more is = zip_append (λ (line : List ℕ) (said : Said). Says answers line said.exit said.text) lines new said more a.answered is

  pub written_more : (to_new : Option (List ℕ)) (number : ℕ) (more : List Said) → number ≡ length said + 1 → Appends to_now to_new (numbered number more) → Appends to_old to_new (numbered 1 (said ++ more))
  written_more to_new number more e p =
      subst (Appends to_old to_new) (sym (numbered-append 1 said more))
      (appends_then to_old to_now to_new (numbered 1 said) (numbered (1 + length said) more) a.written
      (subst (λ n. Appends to_now to_new (numbered n more)) (let f : number ≡ 1 + length said = omega arith in f) p))

  pub front_more_written : (to_new : Option (List ℕ)) (number : ℕ) (more : List Said) → number ≡ length said + 1 → AppendsFront to_now to_new (numbered number more) → AppendsFront to_old to_new (numbered 1 (said ++ more))
  front_more_written to_new number more e p =
      subst (AppendsFront to_old to_new) (sym (numbered-append 1 said more))
      (then_front to_old to_now to_new (numbered 1 said) (numbered (1 + length said) more) a.written
      (subst (λ n. AppendsFront to_now to_new (numbered n more)) (let f : number ≡ 1 + length said = omega arith in f) p))

  pub answered_more : (from_new to_new : Option (List ℕ)) (number : ℕ) (new : List (List ℕ)) (more : List Said) → All IsLine new → Consumes from_now from_new (broken new) → AreSaid answers new more
      → number ≡ length said + 1 → Appends to_now to_new (numbered number more) → AreAnswered answers from_old from_new to_old to_new (lines ++ new) (said ++ more)
  answered_more from_new to_new number new more each read is e p = record {
    each = All-append IsLine lines new a.each each;
    answered = zip_append _ lines new said more a.answered is;
    read = subst (Consumes from_old from_new) (sym (broken-append lines new)) (consumes_more from_old from_now from_new (broken lines) (broken new) a.read read);
    written = written_more to_new number more e p;
  }

  -- what is known of the bytes that come tells of those that came
  if_known : (P Q : List ℕ → Type 0) → ((xs ys : List ℕ) → xs ≡ broken lines ++ ys → P ys → Q xs) → IfSome from_now P → IfSome from_old Q
  if_known P Q so is = by_bytes from_old from_now a.read is
    where
      by_bytes : (o n : Option (List ℕ)) → Consumes o n (broken lines) → IfSome n P → IfSome o Q
      by_bytes None n p q = tt
      by_bytes (Some xs) None p q = absurd p
      by_bytes (Some xs) (Some ys) p q = so xs ys p q

  pub all_lines : (new : List (List ℕ)) → IfSome from_now (AreLines new) → IfSome from_old (AreLines (lines ++ new))
  all_lines new = if_known (AreLines new) (AreLines (lines ++ new)) (λ xs ys p q. lines_then xs ys lines new a.each p q)

  pub first_lines : (new : List (List ℕ)) → IfSome from_now (BeginWith new) → IfSome from_old (BeginWith (lines ++ new))
  first_lines new = if_known (BeginWith new) (BeginWith (lines ++ new)) (λ xs ys p q. begin_then xs ys lines new a.each p q)

  pub some_lines : (new : List (List ℕ)) → IfSome from_now (λ bytes. BeginWith new bytes ⊎ AreLines new bytes) → IfSome from_old (λ bytes. BeginWith (lines ++ new) bytes ⊎ AreLines (lines ++ new) bytes)
  some_lines new = if_known (λ bytes. BeginWith new bytes ⊎ AreLines new bytes) (λ bytes. BeginWith (lines ++ new) bytes ⊎ AreLines (lines ++ new) bytes) so
    where
      so : (xs ys : List ℕ) → xs ≡ broken lines ++ ys → BeginWith new ys ⊎ AreLines new ys → BeginWith (lines ++ new) xs ⊎ AreLines (lines ++ new) xs
      so xs ys p (inl q) = inl (begin_then xs ys lines new a.each p q)
      so xs ys p (inr q) = inr (lines_then xs ys lines new a.each p q)

  pub read_lines : IfSome from_old (BeginWith lines)
  read_lines = by_bytes from_old from_now a.read
    where
      by_bytes : (o n : Option (List ℕ)) → Consumes o n (broken lines) → IfSome o (BeginWith lines)
      by_bytes None n p = tt
      by_bytes (Some xs) None p = absurd p
      by_bytes (Some xs) (Some ys) p = record { each = a.each; rest = ys; joined = p }

-- the lines that came are the first ones, or all
pub came_some : (old new : Option (List ℕ)) (lines : List (List ℕ)) (ends : Ends) → Came old new lines ends → IfSome old (λ bytes. BeginWith lines bytes ⊎ AreLines lines bytes)
came_some None new lines ends came = tt
came_some (Some xs) new lines More came = inl (behind new came)
  where
    behind : (n : Option (List ℕ)) → All IsLine lines × Consumes (Some xs) n (broken lines) → BeginWith lines xs
    behind None r = absurd r.1
    behind (Some ys) r = record { each = r.0; rest = ys; joined = r.1 }
came_some (Some xs) new lines End came = inr came
came_some (Some xs) new lines Failed came = inl came
came_some (Some xs) new lines Endless came = inl came

pub if_err : {T E : Type 0} (r : Result T E) (P : Type 0) → P → IfErr r (λ e. P)
if_err (Ok x) P p = tt
if_err (Err e) P p = p
