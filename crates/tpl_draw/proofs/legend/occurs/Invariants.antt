use Rattle.std.proofs.Common.{◌≡◌, drop}
use Rattle.std.specs.List.{list_any}
use Rattle.tpl_draw.specs.Legend.{are_same}
use Rattle.tpl_draw.proofs.legend.occurs.Given as goal

abbrev pub invariant-loop-it : goal.invariant-loop-it
invariant-loop-it l = list_any (are_same l.ways) l.ends ≡ list_any (are_same l.ways) (drop l.it-index l.ends)
