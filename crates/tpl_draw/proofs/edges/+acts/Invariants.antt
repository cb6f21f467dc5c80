use Rattle.std.proofs.Common.{◌+◌, ◌*◌}
use Rattle.tpl_model.specs.Seen.{statement_of}
use Rattle.tpl_model.specs.Limits.{statement_count, count_one}
use Rattle.tpl_draw.proofs.ActLemmas.{ActsSoFar}
use Rattle.tpl_draw.proofs.edges.+acts.Given as goal

abbrev pub decreases-add_acts : goal.decreases-add_acts
decreases-add_acts l = 3 * statement_count l.body.now + 1

abbrev pub decreases-add_both : goal.decreases-add_both
decreases-add_both l = 3 * (statement_count l.first.now + statement_count l.second.now) + 2

abbrev pub decreases-add_act : goal.decreases-add_act
decreases-add_act l = 3 * count_one (statement_of l.statement.now)

abbrev pub invariant-add_acts-loop-statement : goal.invariant-add_acts-loop-statement
invariant-add_acts-loop-statement l =
    ActsSoFar l.task.0 l.body l.statement-items l.statement-index l.fn.found.items l.found.items
