use Rattle.std.specs.List.{All}
use Rattle.tpl_analyser.specs.Slim.{IsSlimRow}
use Rattle.tpl_analyser.proofs.form.slim.Given as goal

abbrev pub invariant-loop-row : goal.invariant-loop-row
invariant-loop-row l = All (IsSlimRow l.fn.property) l.slim.items
