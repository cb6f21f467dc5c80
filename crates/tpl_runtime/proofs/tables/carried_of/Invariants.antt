use Rattle.std.proofs.Common.{◌≡◌, take}
use Rattle.tpl_runtime.proofs.tables.carried_of.Given as goal

abbrev pub invariant-loop-atom : goal.invariant-loop-atom
invariant-loop-atom l = l.list.items ≡ take l.atom-index l.atoms
