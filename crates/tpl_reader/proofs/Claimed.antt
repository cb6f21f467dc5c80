-- The claims of a document that is spelled.
use Rattle.std.proofs.Common.{ℕ, List}
use Rattle.tpl_reader.specs.Document.{DocumentValue, Spells, SpellsClaims}

pub claims_spelled : (bytes : List ℕ) (doc : DocumentValue) → Spells bytes doc → SpellsClaims bytes doc.graph doc.claims
claims_spelled bytes doc spelled =
    let read = spelled.1 in
    let shaped = read.2 in
    let is = shaped.2 in
    (spelled.0, (read.0, read.1, (shaped.0, shaped.1, (is.valid, is.graph, is.claims))))
