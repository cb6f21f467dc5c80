-- The tokens of an array that is written item by item.
use Rattle.std.proofs.Common.{◌≡◌, ℕ, ◌+◌, ◌<◌, ◌≤◌, List, [], ◌∷◌, ◌++◌, length, get_or, take, drop, map, Bool, true, refl, ap, ◌∙◌, append_assoc}
use Rattle.std.specs.List.{All, list_all}
use Rattle.std.proofs.lemmas.List.{map_push, take_more, take_all, drop_more, drop_all}
use Rattle.std.proofs.lemmas.List.Elements.{All-push}
use Rattle.std.proofs.lemmas.List.Folds.{list_all-append}
use Rattle.json.specs.Token.{Token, begin_array, end_array}
use Rattle.json.specs.Token as token
use Rattle.json.specs.Tree as json
use Rattle.json.specs.Written.{Written}
use Rattle.serde_json.specs.Data.{Data, string, array}
use Rattle.serde_json.specs.View.{items_of}
use Rattle.serde_json.specs.Written.{items_outline}
use Rattle.tpl_cert.specs.Written.{name_at, Puts, PutsValue}

-- the tokens of the items that are left, with the closing bracket
abbrev pub items_left : List Data → List Token
items_left ds = json.items_tokens (items_outline (items_of ds))

abbrev pub names_left : List (List ℕ) → List ℕ → List Token
names_left names ns = items_left (map string (map (name_at names) ns))

-- some tokens, and then others
pub and_then : (old mid new xs ys : List Token) → mid ≡ old ++ xs → new ≡ mid ++ ys → new ≡ old ++ (xs ++ ys)
and_then old mid new xs ys first second = second ∙ ap (λ ts. ts ++ ys) first ∙ append_assoc old xs ys

-- one item more is written
pub one_less : (was now first rest all : List Token) → now ≡ was ++ first → was ++ (first ++ rest) ≡ all → now ++ rest ≡ all
one_less was now first rest all e h = ap (λ ts. ts ++ rest) e ∙ append_assoc was first rest ∙ h

-- no item is left
pub closed : (old opened was now all : List Token) → opened ≡ old ++ begin_array ∷ [] → was ++ end_array ∷ [] ≡ opened ++ all → now ≡ was ++ end_array ∷ [] → now ≡ old ++ (begin_array ∷ all)
closed old opened was now all opening h closing = closing ∙ h ∙ ap (λ ts. ts ++ all) opening ∙ append_assoc old (begin_array ∷ []) all

-- the first elements are written, each with a value of what it is seen as, for which a test and a fact hold
pub record AreWritten {X Y : Type 0} (g : X → Y) (p : Y → Bool) (Is : Y → Type 0) (f : Y → Data) (xs : List X) (i : ℕ) (opened now : Written) : Type 0 where
  pub known : list_all p (map g (take i xs)) ≡ true
  pub are : All Is (map g (take i xs))
  pub before : now.before ≡ opened.before
  pub tokens : now.tokens ++ items_left (map f (map g (drop i xs))) ≡ opened.tokens ++ items_left (map f (map g xs))

pub one_more : {X Y : Type 0} (g : X → Y) (p : Y → Bool) (Is : Y → Type 0) (f : Y → Data) (xs : List X) (i : ℕ) (d : X) (opened was now : Written) → i < length xs → AreWritten g p Is f xs i opened was
    → p (g (get_or xs i d)) ≡ true → Is (g (get_or xs i d)) → PutsValue (f (g (get_or xs i d))) was now → AreWritten g p Is f xs (i + 1) opened now
one_more g p Is f xs i d opened was now lt so_far known is puts = record {
  known = rw (take_more xs i d lt, map_push g (take i xs) (get_or xs i d), list_all-append p (map g (take i xs)) (g (get_or xs i d) ∷ []), so_far.known, known) refl;
  are = rw (take_more xs i d lt, map_push g (take i xs) (get_or xs i d)) (All-push Is (map g (take i xs)) (g (get_or xs i d)) so_far.are is);
  before = puts.0 ∙ so_far.before;
  tokens = one_less was.tokens now.tokens _ _ _ puts.1 (rw (drop_more xs i d lt) at so_far.tokens);
}

-- all are written
pub record AllWritten {Y : Type 0} (p : Y → Bool) (Is : Y → Type 0) (f : Y → Data) (ys : List Y) (old now : Written) : Type 0 where
  pub known : list_all p ys ≡ true
  pub are : All Is ys
  pub puts : PutsValue (array (items_of (map f ys))) old now

pub all_written : {X Y : Type 0} (g : X → Y) (p : Y → Bool) (Is : Y → Type 0) (f : Y → Data) (xs : List X) (i : ℕ) (old opened now new : Written) → length xs ≤ i → AreWritten g p Is f xs i opened now
    → Puts (begin_array ∷ []) old opened → Puts (end_array ∷ []) now new → AllWritten p Is f (map g xs) old new
all_written g p Is f xs i old opened now new le so_far opening closing = record {
  known = rw (take_all i xs le) at so_far.known;
  are = rw (take_all i xs le) at so_far.are;
  puts = (
    closing.0 ∙ so_far.before ∙ opening.0,
    closed old.tokens opened.tokens now.tokens new.tokens _ opening.1 (rw (drop_all i xs le) at so_far.tokens) closing.1,
  );
}

-- the tokens of two lists of words, one after the other
pub words_left : (xs ys : List (List ℕ)) → items_left (map string (xs ++ ys)) ≡ map token.string xs ++ items_left (map string ys)
words_left [] ys = refl
words_left (x ∷ xs) ys = ap (λ ts. token.string x ∷ ts) (words_left xs ys)

pub all_words : (xs : List (List ℕ)) → items_left (map string xs) ≡ map token.string xs ++ end_array ∷ []
all_words [] = refl
all_words (x ∷ xs) = ap (λ ts. token.string x ∷ ts) (all_words xs)
