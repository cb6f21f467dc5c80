-- The loop over a list of statements that counts them and their levels.
use Rattle.std.proofs.Common.{◌≡◌, ℕ, ◌+◌, ◌<◌, ◌≤◌, List, drop, ap, arith}
use Rattle.tpl_model.specs.declared.body.Stmt.{Stmt}
use Rattle.tpl_model.specs.Statements.{Statements}
use Rattle.tpl_model.specs.Seen.{statements_of}
use Rattle.tpl_model.specs.Limits.{statement_count, level_count}

-- the statements before an index fit, and took this much of the room
pub record FitsSoFar (body : Statements) (items : List Stmt) (index levels room left : ℕ) : Type 0 where
  pub whole : statements_of items ≡ body
  pub some : 0 < levels
  pub taken : left + statement_count body ≡ room + statement_count (statements_of (drop index items))
  pub below : level_count (statements_of (drop index items)) ≤ level_count body
  pub deep : level_count (statements_of (drop index items)) ≤ levels → level_count body ≤ levels

pub begins : (body : Statements) (items : List Stmt) (levels room : ℕ) → statements_of items ≡ body → 0 < levels → FitsSoFar body items 0 levels room room
begins body items levels room e some = record {
  whole = e;
  some = some;
  taken = omega (arith, ap statement_count e);
  below = omega (arith, ap level_count e);
  deep = λ h. omega (arith, ap level_count e, h);
}
