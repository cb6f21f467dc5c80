-- What is left of a body after a statement.
use Rattle.std.specs.Prelude.{◌≡◌, ℕ, zero, suc, ◌+◌, ◌≤◌, ◌<◌, Bool, List, Option, Some, None, length, slice_get, if◌then◌else◌}
use Rattle.std.specs.Borrow.{Bor}
use Rattle.tpl_model.specs.declared.body.Stmt.{Stmt}
use Rattle.tpl_model.specs.declared.limits.TheConstants.{MOST_LEVELS}
use Rattle.tpl_model.specs.Statements.{Statement, Statements, If, When, Nothing, ◌⨾◌, followed_by}
use Rattle.tpl_model.specs.Seen.{statements_of}
use Rattle.tpl_model.specs.Limits.{level_count}

-- the list begins with the statement
abbrev pub BeginsWith : Statements → Statement → Type 0
BeginsWith b s = (rest : Statements) × (b ≡ s ⨾ rest)

-- the statements that follow the first one
abbrev pub behind : Statements → Statements
behind Nothing = Nothing
behind (s ⨾ rest) = rest

-- the list that a choice takes, the first or the second; empty where the statement is no choice
abbrev pub chosen : Statement → Bool → Statements
chosen (If i a b) first = if first then a else b
chosen (When f a b) first = if first then a else b
chosen _ first = Nothing

-- what is left behind a choice: the list that it takes, then what follows it
abbrev pub behind_choice : Statements → Bool → Statements
behind_choice Nothing first = Nothing
behind_choice (s ⨾ rest) first = followed_by (chosen s first) rest

-- the statements of a list that is open; none where there is no such list
abbrev pub level_list : Option (Bor (List Stmt)) → Statements
level_list None = Nothing
level_list (Some l) = statements_of l.now

-- what is left of the lists at depths below d, the innermost first, as one list
abbrev pub left_at : List (Bor (List Stmt)) → ℕ → Statements
left_at levels zero = Nothing
left_at levels (suc d) = followed_by (level_list (slice_get levels d)) (left_at levels d)

-- at most MOST_LEVELS lists are open, and what is left of each nests no deeper than the levels below it allow
abbrev pub FitsLevels : List (Bor (List Stmt)) → ℕ → Type 0
FitsLevels levels depth = (depth ≤ MOST_LEVELS) × ((d : ℕ) → d < depth → level_count (level_list (slice_get levels d)) + d ≤ MOST_LEVELS)

-- no list is open, or the innermost one isn't empty
abbrev pub IsSettled : List (Bor (List Stmt)) → ℕ → Type 0
IsSettled levels zero = Unit {0}
IsSettled levels (suc d) = (l : Bor (List Stmt)) × (slice_get levels d ≡ Some l) × (0 < length l.now)
