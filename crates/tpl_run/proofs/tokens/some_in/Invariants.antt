use Rattle.std.proofs.Common.{◌≡◌, drop, map, false}
use Rattle.std.specs.Prelude.{slice_index_or}
use Rattle.tpl_model.specs.Graph.{some_in}
use Rattle.tpl_draft.specs.Ids.{token_number}
use Rattle.tpl_run.proofs.tokens.some_in.Given as goal

abbrev pub invariant-loop-token : goal.invariant-loop-token
invariant-loop-token l =
    some_in (λ k. slice_index_or l.table k false) (map token_number (drop l.token-index l.tokens))
    ≡ some_in (λ k. slice_index_or l.table k false) (map token_number l.tokens)
