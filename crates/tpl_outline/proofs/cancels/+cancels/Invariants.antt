use Rattle.std.proofs.Common.{◌≡◌, ◌+◌, ◌*◌}
use Rattle.tpl_model.specs.Seen.{statement_of, statements_of}
use Rattle.tpl_model.specs.Limits.{statement_count, count_one}
use Rattle.tpl_outline.proofs.cancels.+cancels.Given as goal

abbrev pub decreases-cancels_quiet : goal.decreases-cancels_quiet
decreases-cancels_quiet l = 2 * statement_count l.body.now + 1

abbrev pub decreases-statement_cancels_quiet : goal.decreases-statement_cancels_quiet
decreases-statement_cancels_quiet l = 2 * count_one (statement_of l.statement.now)

abbrev pub invariant-cancels_quiet-loop-statement : goal.invariant-cancels_quiet-loop-statement
invariant-cancels_quiet-loop-statement l = statements_of l.statement-items ≡ l.body
