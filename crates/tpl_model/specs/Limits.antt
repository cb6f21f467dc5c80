-- How many statements a body has, and how deep they nest.
use Rattle.std.specs.Prelude.{ℕ, ◌+◌, ◌≤◌, max}
use Rattle.tpl_model.specs.declared.limits.TheConstants.{MOST_STATEMENTS, MOST_LEVELS}
use Rattle.tpl_model.specs.Statements.{Statement, Statements, If, When, Nothing, ◌⨾◌}

-- the number of statements of a list, nested ones too
abbrev mutual
  pub statement_count : Statements → ℕ
  statement_count Nothing = 0
  statement_count (s ⨾ rest) = count_one s + statement_count rest

  pub count_one : Statement → ℕ
  count_one (If i first second) = 1 + statement_count first + statement_count second
  count_one (When f first second) = 1 + statement_count first + statement_count second
  count_one s = 1

-- how many levels a list has: one without branches has 1
abbrev mutual
  pub level_count : Statements → ℕ
  level_count Nothing = 1
  level_count (s ⨾ rest) = max (levels_in s) (level_count rest)

  pub levels_in : Statement → ℕ
  levels_in (If i first second) = 1 + max (level_count first) (level_count second)
  levels_in (When f first second) = 1 + max (level_count first) (level_count second)
  levels_in s = 1

-- a body with no more statements, nested ones too, and no more levels than a body may have
abbrev pub IsWithinLimits : Statements → Type 0
IsWithinLimits b = (statement_count b ≤ MOST_STATEMENTS) × (level_count b ≤ MOST_LEVELS)
