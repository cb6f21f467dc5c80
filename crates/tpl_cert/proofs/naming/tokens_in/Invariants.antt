use Rattle.std.proofs.Common.{map, take}
use Rattle.tpl_paths.specs.TokenSet.{has_token}
use Rattle.tpl_cert.proofs.Names.{Collects}
use Rattle.tpl_cert.proofs.naming.tokens_in.Given as goal

abbrev pub invariant-loop-name : goal.invariant-loop-name
invariant-loop-name l = Collects l.graph.names.tokens (map (λ s. s.now) (take l.name-index l.names)) (has_token l.set)
