-- Bytes spell one document at most.
use Rattle.std.proofs.Common.{◌≡◌, ℕ, List, Ok, refl, sym, ap, subst, ◌∙◌}
use Rattle.serde_json.specs.Data.{Data}
use Rattle.tpl_draft.specs.Named.{Named}
use Rattle.tpl_json.proofs.Arrays.{some_is}
use Rattle.tpl_reader.specs.Asked.{claims_for}
use Rattle.tpl_reader.specs.Ends.{ends_in}
use Rattle.tpl_parts.specs.Versions.{rules_since}
use Rattle.tpl_reader.specs.Trees.{trees_in}
use Rattle.tpl_reader.specs.Shape.{Spelled, spelled_at}
use Rattle.tpl_reader.specs.Document.{DocumentValue, begin_in, IsDocument, Reads, Spells}
use Rattle.tpl_json.proofs.Passes.{ok_is}

document_parts : (x y : DocumentValue) → x.version ≡ y.version → x.graph ≡ y.graph → x.claims ≡ y.claims → x.names ≡ y.names → x.certificate ≡ y.certificate → x.journal ≡ y.journal → x.start ≡ y.start → x.ended ≡ y.ended → x.times ≡ y.times → x ≡ y
document_parts x y v g c n t j s e m =
    let whole : record { version = x.version; graph = x.graph; claims = x.claims; names = x.names; certificate = x.certificate; journal = x.journal; start = x.start; ended = x.ended; times = x.times } ≡ y = rw (v, g, c, n, t, j, s, e, m) refl in whole

document_same : (s : Spelled) (x y : DocumentValue) → IsDocument s x → IsDocument s y → x ≡ y
document_same s x y p q =
    let same : y.graph ≡ x.graph = q.graph ∙ sym p.graph in
    document_parts x y (p.version ∙ sym q.version) (sym same)
    (ok_is x.claims y.claims (claims_for s.version x.graph s.claims) p.claims (subst (λ (g : Named). claims_for s.version g s.claims ≡ Ok y.claims) same q.claims))
    (p.names ∙ sym q.names)
    (ok_is x.certificate y.certificate (trees_in (rules_since s.version) x.graph.names s.certificate) p.certificate (subst (λ (g : Named). trees_in (rules_since s.version) g.names s.certificate ≡ Ok y.certificate) same q.certificate))
    (p.journal ∙ sym q.journal)
    (ok_is x.start y.start (begin_in x.graph s.start s.ended) p.start (subst (λ (g : Named). begin_in g s.start s.ended ≡ Ok y.start) same q.start))
    (p.ended ∙ ap (λ (g : Named). ends_in g.names.tasks s.ended) (sym same) ∙ sym q.ended)
    (p.times ∙ sym q.times)

pub value_same : (bytes : List ℕ) (d e : Data) → Reads bytes d → Reads bytes e → d ≡ e
value_same bytes d e p q = some_is d e (sym p.1 ∙ q.1)

pub one_document : (bytes : List ℕ) (doc other : DocumentValue) → Spells bytes doc → Spells bytes other → other ≡ doc
one_document bytes doc other p q =
    let d = p.1.0 in
    let x = p.1.2.0 in
    let y = q.1.2.0 in
    let spelled : spelled_at d ≡ Ok y = subst (λ (z : Data). spelled_at z ≡ Ok y) (value_same bytes q.1.0 d q.1.1 p.1.1) q.1.2.1 in
    let same : x ≡ y = ok_is x y (spelled_at d) p.1.2.1 spelled in
    document_same x other doc (subst (λ (z : Spelled). IsDocument z other) (sym same) q.1.2.2) p.1.2.2
