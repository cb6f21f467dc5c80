-- Sets of tasks as lists of their numbers in ascending order, and as words of WORD_BITS bits.
use Rattle.std.specs.Prelude.{◌≡◌, ℕ, zero, suc, ◌*◌, ◌/◌, ◌%◌, ◌<◌, ◌≤◌, Bool, true, ◌==◌, List, [], ◌∷◌, length, slice_index, if◌then◌else◌}
use Rattle.std.specs.Int.{bit_at}
use Rattle.tpl_model.specs.declared.limits.TheConstants.{MOST_TASKS}
use Rattle.tpl_model.specs.declared.task_set.TheConstants.{WORD_BITS}
use Rattle.tpl_model.specs.Members.{mem}

-- a list of numbers in ascending order, none twice, from low on and below high
abbrev pub AscendsWithin : ℕ → ℕ → List ℕ → Type 0
AscendsWithin low high [] = Unit {0}
AscendsWithin low high (x ∷ xs) = (low ≤ x) × (x < high) × AscendsWithin (suc x) high xs

-- a list that can be the members of a set of tasks: its numbers ascend, and each is that of a task of the largest graph
abbrev pub IsTaskSet : List ℕ → Type 0
IsTaskSet xs = AscendsWithin 0 MOST_TASKS xs

-- each member of the first list is one of the second
abbrev pub IsSubset : List ℕ → List ℕ → Type 0
IsSubset xs ys = (x : ℕ) → mem x xs ≡ true → mem x ys ≡ true

-- two sets with the same members are the same list
abbrev pub SetsAreTheirMembers : Type 0
SetsAreTheirMembers = (xs ys : List ℕ) → IsTaskSet xs → IsTaskSet ys → ((x : ℕ) → mem x xs ≡ mem x ys) → xs ≡ ys

-- the bit of a number is set
abbrev pub is_set : List ℕ → ℕ → Bool
is_set words x = bit_at (slice_index words (x / WORD_BITS)) (x % WORD_BITS) == 1

-- of n numbers from low on, those that pass the test
abbrev pub passing_from : (ℕ → Bool) → ℕ → ℕ → List ℕ
passing_from test low zero = []
passing_from test low (suc n) = if test low then (low ∷ passing_from test (suc low) n) else passing_from test (suc low) n

-- the numbers whose bits are set
unfoldable pub members_of : List ℕ → List ℕ
members_of words = passing_from (is_set words) 0 (WORD_BITS * length words)
