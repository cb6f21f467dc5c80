use Rattle.std.proofs.Common.{◌+◌, ◌*◌}
use Rattle.tpl_model.specs.Seen.{statement_of}
use Rattle.tpl_model.specs.Limits.{statement_count, count_one}
use Rattle.tpl_paths.specs.Gathered.{gathered_of}
use Rattle.tpl_paths.specs.Reading.{reading_of}
use Rattle.tpl_paths.proofs.GatheredSoFar.{GatheredSoFar}
use Rattle.tpl_paths.proofs.walk.+walk.Given as goal

abbrev pub decreases-pass_all : goal.decreases-pass_all
decreases-pass_all l = 4 * statement_count l.body.now + 1

abbrev pub decreases-pass : goal.decreases-pass
decreases-pass l = 4 * count_one (statement_of l.statement.now)

abbrev pub decreases-pass_either : goal.decreases-pass_either
decreases-pass_either l = 4 * (statement_count l.first.now + statement_count l.second.now) + 3

abbrev pub decreases-pass_if : goal.decreases-pass_if
decreases-pass_if l = 4 * statement_count l.body.now + 2

abbrev pub decreases-pass_or_not : goal.decreases-pass_or_not
decreases-pass_or_not l = 4 * statement_count l.body.now + 2

abbrev pub decreases-pass_both : goal.decreases-pass_both
decreases-pass_both l = 4 * (statement_count l.first.now + statement_count l.second.now) + 2

abbrev pub invariant-pass_all-loop-statement : goal.invariant-pass_all-loop-statement
invariant-pass_all-loop-statement l =
    GatheredSoFar l.asked (reading_of l.reading) l.body l.statement-items l.statement-index (gathered_of l.fn.gathered) (gathered_of l.gathered)
