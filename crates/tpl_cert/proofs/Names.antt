-- The names of a tree, one after another.
use Rattle.std.proofs.Common.{◌≡◌, ℕ, zero, suc, ◌<◌, ◌&&◌, ◌||◌, List, [], ◌∷◌, ◌++◌, length, get_or, map, Bool, true, false, Some, Ok, ok_or, nat_eq, refl, sym, ap, ◌∙◌, arith}
use Rattle.std.specs.List.{list_all}
use Rattle.std.proofs.lemmas.Nat.Bits.{bit_at-zero}
use Rattle.std.proofs.lemmas.List.Quantifiers.{position-Some}
use Rattle.std.specs.Str.{bytes_eq}
use Rattle.tpl_model.proofs.SetLists.{mem_within, sets_lem, mem-passing_from, passing_from-mem, passing_from-ascends}
use Rattle.tpl_model.proofs.Truths.{same_tests}
use Rattle.tpl_model.specs.Members.{mem}
use Rattle.tpl_model.specs.TaskSet.{IsTaskSet}
use Rattle.tpl_json.proofs.Passes.{each_empty, or_ok}
use Rattle.tpl_paths.specs.declared.token_set.TokenSet.{TokenSet}
use Rattle.tpl_paths.specs.TokenSet.{has_token, no_tokens}
use Rattle.tpl_trees.specs.Sets.{as_set, IsSet}
use Rattle.tpl_trees.specs.Coding.{tokens_in}
use Rattle.tpl_trees.proofs.TokenLists.{tokens_are}
use Rattle.tpl_cert.specs.declared.fault.TreeFault.TheVariants.{Unknown}
use Rattle.tpl_cert.specs.Naming.{number_of, number_in, numbers_in, set_in}

pub list_all_stops : {X Y : Type 0} (p : Y → Bool) (g : X → Y) (xs : List X) (i : ℕ) (d : X) → i < length xs → p (g (get_or xs i d)) ≡ false → list_all p (map g xs) ≡ false
list_all_stops p g [] i d lt h = absurd (omega arith)
list_all_stops p g (x ∷ xs) zero d lt h = rw h refl
list_all_stops p g (x ∷ xs) (suc i) d lt h = both_false (p (g x)) (list_all p (map g xs)) (list_all_stops p g xs i d (omega arith) h)
  where
    both_false : (a b : Bool) → b ≡ false → (a && b) ≡ false
    both_false true b h = h
    both_false false b h = refl

-- a number of a name is below the count of the names
pub number_below : (names : List (List ℕ)) (name : List ℕ) (n : ℕ) → number_of names name ≡ Some n → n < length names
number_below names name n e = (position-Some (bytes_eq name) names n [] e).0

pub number_in-below : (names : List (List ℕ)) (name : List ℕ) (n : ℕ) → number_in names name ≡ Ok n → n < length names
number_in-below names name n e = number_below names name n (or_ok (number_of names name) Unknown n e)

-- ---- sets

mem_push : (x n : ℕ) (ns : List ℕ) → mem x (ns ++ n ∷ []) ≡ (nat_eq x n || mem x ns)
mem_push x n [] = refl
mem_push x n (m ∷ ns) = ap (λ b. nat_eq x m || b) (mem_push x n ns) ∙ turned (nat_eq x m) (nat_eq x n) (mem x ns)
  where
    turned : (a b c : Bool) → (a || (b || c)) ≡ (b || (a || c))
    turned true true c = refl
    turned true false c = refl
    turned false true c = refl
    turned false false c = refl

-- the texts that were looked up so far are named by these numbers, and a test is passed by them alone
pub record Collects (names texts : List (List ℕ)) (has : ℕ → Bool) : Type 0 where
  pub numbers : List ℕ
  pub named : numbers_in names texts ≡ Ok numbers
  pub members : (x : ℕ) → has x ≡ mem x numbers

pub collects_none : (names : List (List ℕ)) (has : ℕ → Bool) → ((x : ℕ) → has x ≡ false) → Collects names [] has
collects_none names has none = record { numbers = []; named = each_empty (λ n text. ok_or (number_of names text) Unknown) 1; members = none }

pub collects_more : (names texts more : List (List ℕ)) (old new : ℕ → Bool) (n : ℕ) (is : Collects names texts old) → numbers_in names more ≡ Ok (is.numbers ++ n ∷ []) → ((x : ℕ) → new x ≡ (nat_eq x n || old x)) → Collects names more new
collects_more names texts more old new n is named grows =
    record { numbers = is.numbers ++ n ∷ []; named = named; members = λ x. grows x ∙ ap (λ b. nat_eq x n || b) (is.members x) ∙ sym (mem_push x n is.numbers) }

-- a set of tasks with these members
pub set_is : (ns set : List ℕ) → IsTaskSet set → ((x : ℕ) → mem x set ≡ mem x ns) → as_set 1024 ns ≡ set
set_is ns set ascends same =
    sets_lem (as_set 1024 ns) set (passing_from-ascends (λ x. mem x ns) 0 1024 1024 (omega arith)) ascends
    (λ x. same_tests (mem x (as_set 1024 ns)) (mem x set) (λ m. same x ∙ mem-passing_from (λ y. mem y ns) 0 1024 x m)
    (λ m. let within = (mem_within 0 1024 set x ascends m).1 in passing_from-mem (λ y. mem y ns) 0 1024 x (omega arith) (omega arith) (sym (same x) ∙ m)))

pub task_set : (set : List ℕ) → IsTaskSet set → IsSet 1024 set
unfolding IsSet
task_set set is = set_is set set is (λ x. refl)

pub no_token_set : IsSet 32 []
unfolding IsSet
no_token_set = refl

-- the tokens of a set with these members
pub tokens_listed : (ns : List ℕ) (set : TokenSet) → IsSet 32 ns → ((k : ℕ) → has_token set k ≡ mem k ns) → tokens_in set ≡ ns
unfolding IsSet
tokens_listed ns set is same = sym (tokens_are ns set same) ∙ is

-- all that was collected, as a set
pub tasks_collected : (names texts : List (List ℕ)) (set : List ℕ) → IsTaskSet set → Collects names texts (λ x. mem x set) → set_in 1024 names texts ≡ Ok set
tasks_collected names texts set ascends is = rw (is.named, set_is is.numbers set ascends is.members) refl

pub tokens_collected : (names texts : List (List ℕ)) (set : TokenSet) → Collects names texts (has_token set) → set_in 32 names texts ≡ Ok (tokens_in set)
tokens_collected names texts set is = rw (is.named, tokens_are is.numbers set is.members) refl

-- the empty set has no token
pub none_has : (k : ℕ) → has_token no_tokens k ≡ false
none_has k = rw (bit_at-zero k) refl
