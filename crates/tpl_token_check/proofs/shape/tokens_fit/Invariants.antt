use Rattle.std.proofs.Common.{◌≡◌, drop}
use Rattle.tpl_laws.specs.TokenVerdict.{tokens_fit}
use Rattle.tpl_token_check.proofs.shape.tokens_fit.Given as goal

abbrev pub invariant-loop-row : goal.invariant-loop-row
invariant-loop-row l = tokens_fit l.graph.graph l.rows ≡ tokens_fit l.graph.graph (drop l.row-index l.rows)
