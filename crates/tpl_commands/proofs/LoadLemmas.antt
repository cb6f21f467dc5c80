-- A document that was read.
use Rattle.std.proofs.Common.{◌≡◌, ℕ, ◌<◌, List, length, Option, Some, None, subst}
use Rattle.std.specs.List.{All}
use Rattle.tpl_draft.specs.Named.{Named}
use Rattle.tpl_parts.specs.Start.{NamedStart}
use Rattle.tpl_reader.specs.Begin.{StartValue}
use Rattle.tpl_reader.specs.Document.{DocumentValue, Spells}
use Rattle.tpl_reader.proofs.Begins.{AreParts, begin_parts, numbers_below}
use Rattle.tpl_commands.specs.Loading.{AreTokens, RequestsTokens}

tokens_begun : (n : Named) → length n.names.tokens ≡ length n.graph.tokens → (spelled : Option NamedStart) (start : Option StartValue) → AreParts n spelled start → AreTokens n.graph start
tokens_begun n tokens None None is = tt
tokens_begun n tokens None (Some t) is = absurd is
tokens_begun n tokens (Some s) None is = absurd is
tokens_begun n tokens (Some s) (Some t) is =
    subst (λ (m : ℕ). All (λ k. k < m) t.request) tokens (numbers_below n.names.tokens s.request t.request is.request)

-- the tokens of a document that is spelled are its graph's
pub tokens_spelled : (bytes : List ℕ) (doc : DocumentValue) → length doc.graph.names.tokens ≡ length doc.graph.graph.tokens → Spells bytes doc → RequestsTokens doc
tokens_spelled bytes doc tokens spelled =
    let s = spelled.1.2.0 in
    tokens_begun doc.graph tokens s.start doc.start (begin_parts doc.graph s.start s.ended doc.start spelled.1.2.2.start).1
