use Rattle.std.proofs.Common.{length}
use Rattle.tpl_checker.proofs.AllEndLemmas.{EndsByFirst}
use Rattle.tpl_model.specs.Certificate.{plain}
use Rattle.tpl_checker.proofs.ends.all_end.Given as goal

abbrev pub invariant-loop-arg : goal.invariant-loop-arg
invariant-loop-arg l = EndsByFirst (length (plain l.rows)) (plain l.rows) l.args l.arg-index l.found
