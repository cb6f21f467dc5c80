use Rattle.std.proofs.Common.{◌≡◌, replicate}
use Rattle.tpl_laws.specs.LeastRows.{blank_row}
use Rattle.tpl_token_check.proofs.rows.Rows.blank.Given as goal

abbrev pub invariant-loop : goal.invariant-loop
invariant-loop l = l.rows.items ≡ replicate l.counter blank_row
