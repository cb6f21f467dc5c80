use Rattle.std.proofs.Common.{◌≡◌, Bool, List, length}
use Rattle.tpl_model.specs.declared.event.Event.{Event}
use Rattle.tpl_run.specs.Tokens.{IsTable}
use Rattle.tpl_run.proofs.tokens.close.Given as goal

abbrev pub invariant-loop-i : goal.invariant-loop-i
invariant-loop-i l = record {
  closed : (v : List Bool) (h : List Event) → IsTable l.graph.graph v h l.itself 0 → IsTable l.graph.graph v h l.table l.i;
  count : length l.table ≡ 32;
}
