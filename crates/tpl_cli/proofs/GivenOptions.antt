-- The numbers and the words that are given for options.
use Rattle.std.proofs.Common.{◌≡◌, ◌∙◌, ◌<◌, ◌≤◌, ◌==◌, ℕ, Bool, true, false, if◌then◌else◌, slice_index, List, Option, Some, None, Result, codes, sym, ap, subst, refl, arith}
use Rattle.std.specs.Prelude.{MatchOption}
use Rattle.std.specs.Str.Parse.{ExplainsUnsignedError, HasUnsignedDigitsIfOk, ParsesUnsigned, digits_value, without_leading_plus}
use Rattle.core.specs.declared.str.parse.ParseIntError.{ParseIntError}
use Rattle.tpl_draw.specs.declared.language.Language.{Language}
use Rattle.tpl_draw.specs.declared.language.Language.TheVariants.{Mermaid, Dot}
use Rattle.clap.specs.Words.{Row, Text, ReadsOne, first_of, first_value, one_text, rows_of}
use Rattle.clap.specs.declared.parser.matches.Found.{Found}
use Rattle.clap.proofs.WalkLemmas.{first_value-rows, one_text-rows}
use Rattle.tpl_verdicts.specs.declared.style.Style.{Style}
use Rattle.tpl_verdicts.specs.declared.style.Style.TheVariants as style
use Rattle.tpl_cli.specs.declared.number.Number.{Number}
use Rattle.tpl_cli.specs.declared.number.Number.TheVariants.{Depth, Workers, Claim, Runs, Seed, Jobs}
use Rattle.tpl_cli.specs.Number.{number_name, number_range}
use Rattle.tpl_cli.specs.Options.{language_word, style_word, IsFlag, IsGiven, IsIfGiven, IsSet}

pub some_same : {A : Type 0} (x y : A) → Some x ≡ Some y → x ≡ y
some_same x y e = cc

-- no answer is right where nothing is meant
pub nothing : {A : Type 0} (R : A → Type 0) (r : Option A) → r ≡ None → ((x : A) → R x → ⊥) → MatchOption r ((x : A) → R x → ⊥) R
nothing {A} R r e none = subst (λ (o : Option A). MatchOption o ((x : A) → R x → ⊥) R) (sym e) none

-- the range of an option is one of numbers of 32 bits
most_small : (option : Number) → (number_range option).1 < 4294967296
most_small Depth = omega arith
most_small Workers = omega arith
most_small Claim = omega arith
most_small Runs = omega arith
most_small Seed = omega arith
most_small Jobs = omega arith

-- what a text gives as a number of 32 bits
abbrev pub GivesNumber : List ℕ → Result ℕ ParseIntError → Type 0
GivesNumber text r = ParsesUnsigned 32 10 text r × ExplainsUnsignedError 10 text r × HasUnsignedDigitsIfOk text r

module _ (found : Found) (option : Number) (name : Text) (is_name : name ≡ number_name option) where
  -- a number that was read is the one that the words give
  pub number_read : (n : ℕ) → (number_range option).0 ≤ n → n ≤ (number_range option).1 → (one_text found name ≡ None → Some n ≡ None)
      → ((t : List ℕ) → one_text found name ≡ Some t → ReadsOne GivesNumber t (Some n)) → IsGiven option (rows_of found) n
  number_read n above limit none value = go (one_text found name) refl
    where
      go : (o : Option Text) → one_text found name ≡ o → IsGiven option (rows_of found) n
      go None e = let bad = none e in absurd cc
      go (Some t) e =
          let p = (value t e).0 in
          record {
            text = t;
            given = sym (one_text-rows found (number_name option)) ∙ (ap (one_text found) (sym is_name) ∙ e);
            digits = p.0.0;
            value = sym p.1;
            least = above;
            most = limit;
          }

  -- a number that the words give is read
  pub given_read : (n : ℕ) (r : Option ℕ) → IsGiven option (rows_of found) n → ((t : List ℕ) → one_text found name ≡ Some t → ReadsOne GivesNumber t r) → r ≡ Some n
  given_read n None is value =
      let read = value is.text (ap (one_text found) is_name ∙ (one_text-rows found (number_name option) ∙ is.given)) in
      let below : digits_value 10 (without_leading_plus is.text) < 4294967296 = subst (λ (m : ℕ). m < 4294967296) (sym is.value) (omega (arith, is.most, most_small option)) in
      absurd (read.1.0 (is.digits, below))
  given_read n (Some m) is value =
      let read = value is.text (ap (one_text found) is_name ∙ (one_text-rows found (number_name option) ∙ is.given)) in
      ap Some (read.0.1 ∙ is.value)

  -- a number that was read lies in the range, where the words give one in it
  pub within : (n m : ℕ) → IsGiven option (rows_of found) n → ((t : List ℕ) → one_text found name ≡ Some t → ReadsOne GivesNumber t (Some m)) → ((number_range option).0 ≤ m) × (m ≤ (number_range option).1)
  within n m is value =
      let same = some_same m n (given_read n (Some m) is value) in
      subst (λ (k : ℕ). ((number_range option).0 ≤ k) × (k ≤ (number_range option).1)) (sym same) (is.least, is.most)

-- one number is given at most
pub same_number : (option : Number) (rows : List Row) (m n : ℕ) → IsGiven option rows m → IsGiven option rows n → m ≡ n
same_number option rows m n a b =
    let texts = some_same a.text b.text (sym a.given ∙ b.given) in
    sym a.value ∙ ap (λ t. digits_value 10 (without_leading_plus t)) texts ∙ b.value

pub same_if_given : (option : Number) (rows : List Row) (a b : Option ℕ) → IsIfGiven option rows a → IsIfGiven option rows b → a ≡ b
same_if_given option rows None None m n = refl
same_if_given option rows None (Some c) m n = absurd (n.0 m)
same_if_given option rows (Some c) None m n = absurd (m.0 n)
same_if_given option rows (Some c) (Some d) m n = ap Some (same_number option rows c d m.1 n.1)

-- an option is used or isn't
pub same_flag : (option : Text) (rows : List Row) (a b : Bool) → IsFlag option rows a → IsFlag option rows b → a ≡ b
same_flag option rows true true m n = refl
same_flag option rows true false m n = sym (n.1 (m.0 refl))
same_flag option rows false true m n = m.1 (n.0 refl)
same_flag option rows false false m n = refl

-- two languages have two words, and so have two styles
pub same_language : (a b : Language) → language_word a ≡ language_word b → a ≡ b
same_language Mermaid Mermaid e = refl
same_language Mermaid Dot e = absurd cc
same_language Dot Mermaid e = absurd cc
same_language Dot Dot e = refl

styled : Text → Style
styled t = if slice_index t 0 == 116 then style.Text else (if slice_index t 0 == 104 then style.Html else (if slice_index t 1 == 115 then style.Json else style.Junit))

styled_word : (s : Style) → styled (style_word s) ≡ s
unfolding styled
styled_word style.Text = refl
styled_word style.Json = refl
styled_word style.Junit = refl
styled_word style.Html = refl

pub same_style : (a b : Style) → style_word a ≡ style_word b → a ≡ b
same_style a b e = sym (styled_word a) ∙ (ap styled e ∙ styled_word b)

module _ {A : Type 0} (word : A → Text) where
  -- one thing is named at most, where two have two words
  pub same_named : (rows : List Row) (a b : A) → ((x y : A) → word x ≡ word y → x ≡ y) → first_of (codes "as") rows ≡ Some (word a) → first_of (codes "as") rows ≡ Some (word b) → a ≡ b
  same_named rows a b same first second = same a b (some_same (word a) (word b) (sym first ∙ second))

  pub none_named : (found : Found) (thing : A) → None ≡ first_value found (codes "as") → first_of (codes "as") (rows_of found) ≡ Some (word thing) → ⊥
  none_named found thing gives is = let e = gives ∙ (first_value-rows found (codes "as") ∙ is) in absurd cc

  -- what a text names is what the words give, if that text is given
  pub named_given : (found : Found) (t : Text) (o : Option A) → Some t ≡ first_value found (codes "as") → MatchOption o ((x : A) → word x ≡ t → ⊥) (λ x. word x ≡ t)
      → MatchOption o ((x : A) → first_of (codes "as") (rows_of found) ≡ Some (word x) → ⊥) (λ x. first_of (codes "as") (rows_of found) ≡ Some (word x))
  named_given found t None gives none = λ x is. none x (sym (some_same t (word x) (gives ∙ (first_value-rows found (codes "as") ∙ is))))
  named_given found t (Some x) gives is = sym (first_value-rows found (codes "as")) ∙ (sym gives ∙ ap Some (sym is))

-- a text is given for the option, and it is `true`, or it isn't
pub set_given : (found : Found) (option t : Text) → Some t ≡ first_value found option → t ≡ codes "true" → IsSet option (rows_of found)
set_given found option t gives is = sym (first_value-rows found option) ∙ (sym gives ∙ ap Some is)

pub not_set_given : (found : Found) (option t : Text) → Some t ≡ first_value found option → (t ≡ codes "true" → ⊥) → IsSet option (rows_of found) → ⊥
not_set_given found option t gives differs is = differs (some_same t (codes "true") (gives ∙ (first_value-rows found option ∙ is)))

pub not_set : (found : Found) (option : Text) → None ≡ first_value found option → IsSet option (rows_of found) → ⊥
not_set found option gives is = let e = gives ∙ (first_value-rows found option ∙ is) in absurd cc

-- whether a number is given
pub no_number : (found : Found) (option : Number) (name : Text) → name ≡ number_name option → None ≡ first_value found name → first_of (number_name option) (rows_of found) ≡ None
no_number found option name is gives = sym (first_value-rows found (number_name option)) ∙ (ap (first_value found) (sym is) ∙ sym gives)

pub some_number : (found : Found) (option : Number) (name t : Text) → name ≡ number_name option → Some t ≡ first_value found name → first_of (number_name option) (rows_of found) ≡ None → ⊥
some_number found option name t is gives none = let e = gives ∙ (ap (first_value found) is ∙ (first_value-rows found (number_name option) ∙ none)) in absurd cc

-- what is given is no number in the range
pub wrong_number : (option : Number) (rows : List Row) (number : Option ℕ) → (first_of (number_name option) rows ≡ None → ⊥) → ((n : ℕ) → IsGiven option rows n → ⊥) → IsIfGiven option rows number → ⊥
wrong_number option rows None some none is = some is
wrong_number option rows (Some n) some none is = none n is.1
