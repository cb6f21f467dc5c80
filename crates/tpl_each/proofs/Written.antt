-- Texts that are written in parts.
use Rattle.std.proofs.Common.{◌≡◌, ℕ, zero, suc, ◌+◌, ◌<◌, ◌≤◌, List, [], ◌∷◌, ◌++◌, length, take, drop, map, get_or, not, nat_eq, true, false, Option, refl, sym, ap, ◌∙◌, subst, append_assoc, append-nil, length-append, arith}
use Rattle.std.specs.Prelude.{◌==◌}
use Rattle.std.specs.Io.KnownBytes.{Appends}
use Rattle.std.proofs.Math.Seq.{drop-length, take-length}
use Rattle.std.proofs.lemmas.List.{length-take, take_more}
use Rattle.std.proofs.lemmas.Bool.{and_parts}
use Rattle.std.proofs.lemmas.Bool.Decides.{nat_tests}
use Rattle.tpl_journal.specs.Cuts.{lacks}
use Rattle.tpl_journal.proofs.CutLemmas.{not_it}
use Rattle.tpl_journal.specs.Writing.{AppendsFront}
use Rattle.tpl_journal.proofs.WrittenLemmas.{front_then}
use Rattle.tpl_each.specs.Lines.{IsFirstBreak}
use Rattle.tpl_each.proofs.Breaks.{cut_at, front_at}
use Rattle.tpl_commands.specs.declared.exit.Exit.{Exit}
use Rattle.tpl_each.specs.declared.slot.Slot.{Slot}
use Rattle.tpl_each.specs.Slots.{said_of}
use Rattle.tpl_each.proofs.Lists.{cut_at_item, map-append, map-length}
use Rattle.tpl_each.specs.Said.{Said, head, headed, written, numbered}

-- a front of a text is one of a longer text
pub front_more : (a b : Option (List ℕ)) (xs ys : List ℕ) → AppendsFront a b xs → AppendsFront a b (xs ++ ys)
front_more a b xs ys (n, le, p) =
    let size = length-append xs ys in
    (n, omega arith, subst (Appends a b) (sym (take_front n xs ys le)) p)
  where
    take_front : (k : ℕ) (us vs : List ℕ) → k ≤ length us → take k (us ++ vs) ≡ take k us
    take_front zero us vs l = none us vs
      where
        none : (ps qs : List ℕ) → take 0 (ps ++ qs) ≡ take 0 ps
        none [] [] = refl
        none [] (q ∷ qs) = refl
        none (p ∷ ps) qs = refl
    take_front (suc k) [] vs l = absurd (omega arith)
    take_front (suc k) (u ∷ us) vs l = ap (λ z. u ∷ z) (take_front k us vs (omega arith))

-- a text and then a front of another
pub then_front : (a b c : Option (List ℕ)) (xs ys : List ℕ) → Appends a b xs → AppendsFront b c ys → AppendsFront a c (xs ++ ys)
then_front a b c xs ys p q =
    subst (λ z. AppendsFront a c (xs ++ z)) (append-nil ys) (front_then a b c xs ys [] p q)

same_byte : (c : ℕ) (line : List ℕ) → lacks 10 (c ∷ line) ≡ true → ((c == 10) ≡ false) × (lacks 10 line ≡ true)
same_byte c line is =
    let two = and_parts (not (nat_eq c 10)) (lacks 10 line) is in
    let other = not_it c 10 two.0 in
    (let e : (c == 10) ≡ false = grind (arith, nat_tests) in e, two.1)

module _ (before : List ℕ) where
  -- a line goes on to its break
  goes_on : (line text : List ℕ) → lacks 10 line ≡ true → headed before false (line ++ (10 ∷ text)) ≡ line ++ (10 ∷ headed before true text)
  goes_on [] text is = refl
  goes_on (c ∷ line) text is =
      let two = same_byte c line is in
      ap (λ z. c ∷ z) (ap (λ b. headed before b (line ++ (10 ∷ text))) two.0 ∙ goes_on line text two.1)

  -- or to the end
  goes_to_end : (line : List ℕ) → lacks 10 line ≡ true → headed before false line ≡ line
  goes_to_end [] is = refl
  goes_to_end (c ∷ line) is =
      let two = same_byte c line is in
      ap (λ z. c ∷ z) (ap (λ b. headed before b line) two.0 ∙ goes_to_end line two.1)

  -- a line with its break, and what stands behind
  pub line_then : (line text : List ℕ) → lacks 10 line ≡ true → headed before true (line ++ (10 ∷ text)) ≡ before ++ (line ++ (10 ∷ headed before true text))
  line_then [] text is = refl
  line_then (c ∷ line) text is =
      let two = same_byte c line is in
      ap (λ z. before ++ (c ∷ z)) (ap (λ b. headed before b (line ++ (10 ∷ text))) two.0 ∙ goes_on line text two.1)

  -- the last line
  pub line_alone : (line : List ℕ) → 0 < length line → lacks 10 line ≡ true → headed before true line ≡ before ++ line
  line_alone [] some is = absurd (omega arith)
  line_alone (c ∷ line) some is =
      let two = same_byte c line is in
      ap (λ z. before ++ (c ∷ z)) (ap (λ b. headed before b line) two.0 ∙ goes_to_end line two.1)

  -- a text without a break
  pub whole_line : (text : List ℕ) → 0 < length text → lacks 10 text ≡ true → headed before true text ≡ before ++ (take (length text) text ++ headed before true (drop (length text) text))
  whole_line text some is =
      line_alone text some is
      ∙ ap (λ z. before ++ z) (sym (ap (λ z. take (length text) text ++ headed before true z) (drop-length text) ∙ (append-nil (take (length text) text) ∙ take-length text)))

  -- the first line of a text, with its break
  pub first_line : (text : List ℕ) (place : ℕ) → IsFirstBreak text place → headed before true text ≡ before ++ (take (place + 1) text ++ headed before true (drop (place + 1) text))
  first_line text place is =
      ap (headed before true) (cut_at text place is)
      ∙ (line_then (take place text) (drop (place + 1) text) is.before
      ∙ ap (λ z. before ++ z) (sym (append_assoc (take place text) (10 ∷ []) (headed before true (drop (place + 1) text)))
      ∙ ap (λ z. z ++ headed before true (drop (place + 1) text)) (sym (front_at text place is))))

pub numbered-append : (n : ℕ) (a b : List Said) → numbered n (a ++ b) ≡ numbered n a ++ numbered (n + length a) b
numbered-append n [] b = ap (λ k. numbered k b) (let e : n ≡ n + 0 = omega arith in e)
numbered-append n (said ∷ a) b =
    ap (λ z. written n said ++ z) (numbered-append (n + 1) a b)
    ∙ (sym (append_assoc (written n said) (numbered (n + 1) a) (numbered (n + 1 + length a) b))
    ∙ ap (λ k. (written n said ++ numbered (n + 1) a) ++ numbered k b) (let e : n + 1 + length a ≡ n + suc (length a) = omega arith in e))

-- one more answer
pub numbered_push : (n : ℕ) (a : List Said) (said : Said) → numbered n (a ++ said ∷ []) ≡ numbered n a ++ written (n + length a) said
numbered_push n a said = numbered-append n a (said ∷ []) ∙ ap (λ z. numbered n a ++ z) (append-nil (written (n + length a) said))

-- the next line was written
pub text_more : (whole done rest line more : List ℕ) → whole ≡ done ++ rest → rest ≡ line ++ more → whole ≡ (done ++ line) ++ more
text_more whole done rest line more e f = e ∙ (ap (λ z. done ++ z) f ∙ sym (append_assoc done line more))

-- the first line behind its head, and what stands behind
pub by_parts : (before text line rest : List ℕ) (n : ℕ) → headed before true text ≡ before ++ (take n text ++ headed before true (drop n text)) → line ≡ take n text → rest ≡ drop n text
    → headed before true text ≡ (before ++ line) ++ headed before true rest
by_parts before text line rest n e f g =
    e ∙ (ap (λ z. before ++ (z ++ headed before true (drop n text))) (sym f)
    ∙ (ap (λ z. before ++ (line ++ headed before true z)) (sym g) ∙ sym (append_assoc before line (headed before true rest))))

same_written : (n : ℕ) (exit : Exit) (text : List ℕ) (said : Said) → exit ≡ said.exit → text ≡ said.text → headed (head n exit) true text ≡ written n said
same_written n exit text said e f = ap (λ x. headed (head n x) true text) e ∙ ap (λ t. headed (head n said.exit) true t) f

module _ (slots : List Slot) (number at : ℕ) (slot : Slot) (lt : at < length slots) (is : slot ≡ get_or slots at slot) (exit : Exit) (text : List ℕ) (e : exit ≡ (said_of slot).exit) (f : text ≡ (said_of slot).text) where
  place : number + length (map said_of (take at slots)) ≡ number + at
  place = let size = map-length said_of (take at slots) in let front = length-take at slots in omega arith

  -- what is written for the slot
  this : headed (head (number + at) exit) true text ≡ written (number + length (map said_of (take at slots))) (said_of slot)
  this = same_written (number + at) exit text (said_of slot) e f ∙ ap (λ n. written n (said_of slot)) (sym place)

  -- what is written for the slots up to this one
  pub with_slot : numbered number (map said_of (take (at + 1) slots)) ≡ numbered number (map said_of (take at slots)) ++ headed (head (number + at) exit) true text
  with_slot =
      ap (λ all. numbered number (map said_of all)) (take_more slots at slot lt ∙ ap (λ z. take at slots ++ z ∷ []) (sym is))
      ∙ (ap (numbered number) (map-append said_of (take at slots) (slot ∷ []))
      ∙ (numbered_push number (map said_of (take at slots)) (said_of slot) ∙ ap (λ z. numbered number (map said_of (take at slots)) ++ z) (sym this)))

  -- what is written for the slots behind this one
  abbrev pub behind : List ℕ
  behind = numbered (number + length (map said_of (take at slots)) + 1) (map said_of (drop (at + 1) slots))

  -- what is written for all slots, by its parts
  pub around_slot : numbered number (map said_of (take at slots)) ++ (headed (head (number + at) exit) true text ++ behind) ≡ numbered number (map said_of slots)
  around_slot =
      ap (λ z. numbered number (map said_of (take at slots)) ++ (z ++ behind)) this
      ∙ (sym (numbered-append number (map said_of (take at slots)) (said_of slot ∷ map said_of (drop (at + 1) slots)))
      ∙ sym (ap (numbered number) (ap (map said_of) (cut_at_item slots at slot lt is) ∙ map-append said_of (take at slots) (slot ∷ drop (at + 1) slots))))
