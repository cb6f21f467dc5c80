use Rattle.std.proofs.Common.{◌≡◌, drop, map}
use Rattle.tpl_draft.specs.Refusals.{some_misplaced}
use Rattle.tpl_draft.specs.Origins.{token_of}
use Rattle.tpl_draft.proofs.refusals.some_misplaced.Given as goal

abbrev pub invariant-loop-k : goal.invariant-loop-k
invariant-loop-k l = some_misplaced l.k (map token_of (drop l.k l.tokens)) ≡ some_misplaced 0 (map token_of l.tokens)
