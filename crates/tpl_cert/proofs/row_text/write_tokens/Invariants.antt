use Rattle.tpl_paths.specs.TokenSet.{has_token}
use Rattle.tpl_cert.proofs.TokensWritten.{AreTokensWritten}
use Rattle.tpl_cert.proofs.row_text.write_tokens.Given as goal

abbrev pub invariant-loop-number : goal.invariant-loop-number
invariant-loop-number l = AreTokensWritten l.graph.names.tokens (has_token l.set) l.number l.initial.out l.out
