use Rattle.std.proofs.Common.{map}
use Rattle.tpl_journal.specs.Carried.{numbers_of}
use Rattle.tpl_journal.specs.ReportText.{task_lines}
use Rattle.tpl_journal.specs.Writing.{Writes}
use Rattle.tpl_journal.proofs.report_lines.put_lines.Given as goal

abbrev pub invariant-loop-i : goal.invariant-loop-i
invariant-loop-i g l = Writes g.W.Write.contents l.initial.to l.to (task_lines l.graph.names l.statuses l.labels (map numbers_of l.carried) l.i)
