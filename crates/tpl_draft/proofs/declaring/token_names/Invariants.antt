use Rattle.std.proofs.Common.{◌≡◌, map, take}
use Rattle.std.specs.Prelude.{string_bytes}
use Rattle.tpl_draft.proofs.declaring.token_names.Given as goal

abbrev pub invariant-loop-token : goal.invariant-loop-token
invariant-loop-token l = map string_bytes l.names.items ≡ map (λ x. string_bytes x.name) (take l.token-index l.tokens)
