-- A document with another certificate.
use Rattle.std.proofs.Common.{◌≡◌, ℕ, ◌+◌, ◌≤◌, List, [], ◌∷◌, map, Some, Ok, codes, refl, sym, ap, subst, ◌∙◌, length}
use Rattle.std.specs.List.{All}
use Rattle.std.proofs.lemmas.List.Elements.{All-head, All-tail}
use Rattle.serde_json.specs.Data.{Data, Members, array, object, put}
use Rattle.serde_json.specs.View.{items_of}
use Rattle.tpl_model.specs.declared.rule_set.RuleSet.{RuleSet}
use Rattle.tpl_model.specs.Certificate.{Tree}
use Rattle.tpl_draft.specs.Named.{Names}
use Rattle.tpl_json.specs.Members.{list_or_none}
use Rattle.tpl_json.specs.Passes.{each_from, at_number}
use Rattle.tpl_json.proofs.Passes.{each_empty, each_cons}
use Rattle.tpl_parts.specs.Versions.{rules_since}
use Rattle.tpl_cert.specs.Spelled.{read_tree}
use Rattle.tpl_cert.specs.Written.{tree_data, certificate_data}
use Rattle.tpl_reader.specs.Top as top
use Rattle.tpl_reader.specs.Top.{top_at}
use Rattle.tpl_reader.proofs.TopLaws.{parts_of, top_put}
use Rattle.tpl_reader.proofs.Pieces.{pieces_of, spelled_of}
use Rattle.tpl_reader.specs.Shape.{Spelled, spelled_at}
use Rattle.tpl_reader.specs.Document.{DocumentValue, IsDocument, Spells, longest}
use Rattle.tpl_reader.specs.Laws.{IsReadBack, HoldsCertificate}
use Rattle.tpl_json.proofs.Arrays.{elements-items_of}
use Rattle.tpl_json.proofs.Json.{some}
use Rattle.tpl_reader.proofs.OneDocument.{value_same}

-- ---- the members

there : (ds : List Data) → list_or_none (Some (array (items_of ds))) ≡ Some ds
unfolding list_or_none
there ds = ap (λ (xs : List Data). some xs) (elements-items_of ds)

top_with : (ms : Members) (m : top.Members) (ds : List Data) → top_at (object ms) ≡ Some m → top_at (object (put (codes "certificate") (array (items_of ds)) ms)) ≡ Some (record m { certificate = ds })
top_with ms m ds is =
    let p = parts_of (object ms) m is in
    let q = p.1 in
    top_put (codes "certificate") (array (items_of ds)) ms (record m { certificate = ds }) refl p.0
    (record { version = q.version; note = q.note; schema = q.schema; ended = q.ended; inputs = q.inputs; tokens = q.tokens; tasks = q.tasks; claims = q.claims; certificate = there ds; journal = q.journal; times = q.times; start = q.start })

-- ---- the document

spelled_put : (ms : Members) (s : Spelled) (ds : List Data) → spelled_at (object ms) ≡ Ok s → spelled_at (object (put (codes "certificate") (array (items_of ds)) ms)) ≡ Ok (record s { certificate = ds })
spelled_put ms s ds is =
    let p = pieces_of (object ms) s is in
    spelled_of (object (put (codes "certificate") (array (items_of ds)) ms)) (record s { certificate = ds })
    (record { top = record p.top { certificate = ds }; tasks = p.tasks; claims = p.claims; start = p.start; is_top = top_with ms p.top ds p.is_top; are_tasks = p.are_tasks; are_claims = p.are_claims; is_start = p.is_start; whole = ap (λ (z : Spelled). record z { certificate = ds }) p.whole })

-- the values from n on
read_from : (rules : RuleSet) (n : Names) (k : ℕ) (trees : List Tree) → All (IsReadBack rules n) trees → each_from (λ j d. at_number j (read_tree rules n d)) k (map (tree_data rules n) trees) ≡ Ok trees
read_from rules n k [] all = each_empty (λ j d. at_number j (read_tree rules n d)) k
read_from rules n k (t ∷ trees) all =
    each_cons (λ j d. at_number j (read_tree rules n d)) k (tree_data rules n t) (map (tree_data rules n) trees) t trees (rw (All-head (IsReadBack rules n) t trees all) refl) (read_from rules n (k + 1) trees (All-tail (IsReadBack rules n) t trees all))

document_put : (s : Spelled) (doc : DocumentValue) (trees : List Tree) → IsDocument s doc → All (IsReadBack (rules_since doc.version) doc.graph.names) trees
    → IsDocument (record s { certificate = map (tree_data (rules_since doc.version) doc.graph.names) trees }) (record doc { certificate = trees })
document_put s doc trees is all = record {
  version = is.version;
  valid = is.valid;
  graph = is.graph;
  claims = is.claims;
  names = is.names;
  certificate = rw (sym is.version) (read_from (rules_since doc.version) doc.graph.names 1 trees all);
  journal = is.journal;
  start = is.start;
  ended = is.ended;
  times = is.times;
}

pub is_read_back : (bytes with : List ℕ) (doc : DocumentValue) (trees : List Tree) → Spells bytes doc → All (IsReadBack (rules_since doc.version) doc.graph.names) trees
    → HoldsCertificate bytes (certificate_data (rules_since doc.version) doc.graph.names trees) with → length with ≤ longest → Spells with (record doc { certificate = trees })
is_read_back bytes with doc trees is all holds le =
    let ds = map (tree_data (rules_since doc.version) doc.graph.names) trees in
    let d = holds.0 in
    let has = holds.4 in
    let same : is.1.0 ≡ object has.0 = value_same bytes is.1.0 d is.1.1 holds.2 ∙ has.1 in
    let spelled : spelled_at (object has.0) ≡ Ok is.1.2.0 = subst (λ (z : Data). spelled_at z ≡ Ok is.1.2.0) same is.1.2.1 in
    (le, (holds.1, holds.3, (record is.1.2.0 { certificate = ds }, subst (λ (z : Data). spelled_at z ≡ Ok (record is.1.2.0 { certificate = ds })) (sym has.2) (spelled_put has.0 is.1.2.0 ds spelled), document_put is.1.2.0 doc trees is.1.2.2 all)))
