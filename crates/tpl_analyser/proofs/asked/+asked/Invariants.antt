use Rattle.std.proofs.Common.{◌≡◌, ◌+◌, ◌*◌}
use Rattle.tpl_model.specs.Seen.{statement_of, statements_of}
use Rattle.tpl_model.specs.Limits.{statement_count, count_one}
use Rattle.tpl_analyser.proofs.asked.+asked.Given as goal

abbrev pub decreases-asks_for : goal.decreases-asks_for
decreases-asks_for l = 2 * statement_count l.body.now + 1

abbrev pub decreases-statement_asks_for : goal.decreases-statement_asks_for
decreases-statement_asks_for l = 2 * count_one (statement_of l.statement.now)

abbrev pub invariant-asks_for-loop-statement : goal.invariant-asks_for-loop-statement
invariant-asks_for-loop-statement l = statements_of l.statement-items ≡ l.body
