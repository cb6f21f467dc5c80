use Rattle.std.proofs.Common.{take}
use Rattle.std.specs.List.{All, AllZip}
use Rattle.tpl_verify.specs.Verdicts.{IsVerdict, KeepsTo}
use Rattle.tpl_verify.proofs.verifying.verify.Given as goal

abbrev pub invariant-loop-at : goal.invariant-loop-at
invariant-loop-at l = record {
  verdicts : AllZip (IsVerdict l.rules l.graph.graph) (take l.at l.claims) l.verdicts.items;
  within : All (KeepsTo l.limits.depth l.limits.runs) l.verdicts.items;
}
