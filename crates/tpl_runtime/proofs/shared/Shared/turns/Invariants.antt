use Rattle.tpl_runtime.specs.declared.shared.Turn.TheVariants.{Go}
use Rattle.tpl_runtime.specs.Turns.{Keeps}
use Rattle.tpl_runtime.proofs.shared.Shared.turns.Given as goal

abbrev pub invariant-loop-more : goal.invariant-loop-more
invariant-loop-more g l = Keeps (Go l.held) l.fn.kit l.kit
