-- Readings that find the same in a body.
use Rattle.std.specs.Prelude.{◌≡◌, ℕ, ◌<◌, Bool}
use Rattle.tpl_model.specs.declared.finals.Final.{Final}
use Rattle.tpl_model.specs.Statements.{Statement, Check, Cancel, If, When, Statements, Nothing, ◌⨾◌}
use Rattle.tpl_model.specs.Knowledge.{Reading, at_end, at_throw, at_start}

-- each token that the statements check or cancel is below n
abbrev mutual
  pub TokensBelow : ℕ → Statements → Type 0
  TokensBelow n Nothing = Unit {0}
  TokensBelow n (s ⨾ rest) = TokensWithin n s × TokensBelow n rest

  pub TokensWithin : ℕ → Statement → Type 0
  TokensWithin n (Check k) = k < n
  TokensWithin n (Cancel k) = k < n
  TokensWithin n (If i first second) = TokensBelow n first × TokensBelow n second
  TokensWithin n (When f first second) = TokensBelow n first × TokensBelow n second
  TokensWithin n s = Unit {0}

-- the two say the same, but for tokens from n on, to which they may link others
pub record AgreeBelow (n : ℕ) (v w : Reading) : Type 0 where
  pub known : v.known ≡ w.known
  pub linked : (k j : ℕ) → k < n → v.linked k j ≡ w.linked k j
  pub child : (c : ℕ) → v.child c ≡ w.child c

-- the two find the same in a body whose tokens are below n
abbrev pub AgreeingReadings : Type 0
AgreeingReadings =
    (n : ℕ) (v w : Reading) (body : Statements) (tokens : ℕ → Bool) → AgreeBelow n v w → TokensBelow n body
    → ((f : Final) → at_end f v tokens body ≡ at_end f w tokens body)
    × (at_throw v tokens body ≡ at_throw w tokens body)
    × ((c : ℕ) → at_start c v tokens body ≡ at_start c w tokens body)
