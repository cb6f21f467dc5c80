-- Of bytes that spell a document no fault is true.
use Rattle.std.proofs.Common.{◌≡◌, ℕ, List, true, Ok, Err, refl, sym, subst, ◌∙◌, arith, true≢false}
use Rattle.serde_json.specs.Data.{Data}
use Rattle.tpl_draft.specs.declared.fault.GraphFault.{GraphFault}
use Rattle.tpl_draft.specs.Draft.{Draft}
use Rattle.tpl_draft.specs.Named.{Named}
use Rattle.tpl_draft.specs.Numbered.{numbered}
use Rattle.tpl_draft.specs.Refusals.{IsValid, IsLeast}
use Rattle.tpl_reader.specs.Asked.{claims_for}
use Rattle.tpl_parts.specs.Versions.{rules_since}
use Rattle.tpl_reader.specs.Trees.{trees_in}
use Rattle.tpl_reader.specs.declared.fault.Part.{Part}
use Rattle.tpl_reader.specs.declared.fault.ReadFault.{ReadFault}
use Rattle.tpl_reader.specs.declared.fault.ReadFault.TheVariants as faults
use Rattle.tpl_reader.specs.Shape.{Spelled, spelled_at}
use Rattle.tpl_reader.specs.Document.{DocumentValue, begin_in, IsRefused, IsDocument, Reads, Spells, IsFault}
use Rattle.tpl_json.proofs.Passes.{ok_is, ok_err}
use Rattle.tpl_reader.proofs.OneDocument.{value_same}

-- ---- the graph

valid_graph : (d : Draft) → IsValid d → (f : GraphFault) → IsLeast d f → ⊥
valid_graph d valid f least = true≢false (sym least.here ∙ valid f.why f.at)

-- ---- the whole

module _ (s : Spelled) (doc : DocumentValue) (is : IsDocument s doc) where
  abbrev graph : Named
  graph = numbered s.draft

  claims : claims_for s.version graph s.claims ≡ Ok doc.claims
  claims = subst (λ (g : Named). claims_for s.version g s.claims ≡ Ok doc.claims) is.graph is.claims

  trees : trees_in (rules_since s.version) graph.names s.certificate ≡ Ok doc.certificate
  trees = subst (λ (g : Named). trees_in (rules_since s.version) g.names s.certificate ≡ Ok doc.certificate) is.graph is.certificate

  start : begin_in graph s.start s.ended ≡ Ok doc.start
  start = subst (λ (g : Named). begin_in g s.start s.ended ≡ Ok doc.start) is.graph is.start

  not_refused : (e : ReadFault) → IsRefused s e → e ≡ faults.Memory
  not_refused (faults.Graph f) wrong = absurd (valid_graph s.draft is.valid f wrong)
  not_refused (faults.Claim n f) wrong = absurd (ok_err doc.claims (n, f) (claims_for s.version graph s.claims) claims wrong.1)
  not_refused (faults.Certificate n f) wrong = absurd (ok_err doc.certificate (n, f) (trees_in (rules_since s.version) graph.names s.certificate) trees wrong.1)
  not_refused (faults.Start f) wrong = absurd (ok_err doc.start f (begin_in graph s.start s.ended) start wrong.1)
  not_refused faults.Memory wrong = refl
  not_refused faults.TooLong wrong = absurd wrong
  not_refused faults.NotJson wrong = absurd wrong
  not_refused (faults.Shape p) wrong = absurd wrong

settled : (bytes : List ℕ) (doc : DocumentValue) (e : ReadFault) → Spells bytes doc → (d : Data) → Reads bytes d → (s : Spelled) → spelled_at d ≡ Ok s → IsRefused s e → e ≡ faults.Memory
settled bytes doc e is d reads s spelled wrong =
    let here = is.1.0 in
    let there = is.1.2.0 in
    let moved : spelled_at here ≡ Ok s = subst (λ (z : Data). spelled_at z ≡ Ok s) (value_same bytes d here reads is.1.1) spelled in
    let same : s ≡ there = ok_is s there (spelled_at here) moved is.1.2.1 in
    not_refused there doc is.1.2.2 e (subst (λ (z : Spelled). IsRefused z e) same wrong)

shaped : (bytes : List ℕ) (doc : DocumentValue) → Spells bytes doc → (d : Data) → Reads bytes d → (p : Part) → spelled_at d ≡ Err p → ⊥
shaped bytes doc is d reads p wrong =
    ok_err is.1.2.0 p (spelled_at is.1.0) is.1.2.1 (subst (λ (z : Data). spelled_at z ≡ Err p) (value_same bytes d is.1.0 reads is.1.1) wrong)

pub no_fault : (bytes : List ℕ) (doc : DocumentValue) (e : ReadFault) → Spells bytes doc → IsFault bytes e → e ≡ faults.Memory
no_fault bytes doc faults.TooLong is wrong = let le = is.0 in absurd (omega arith)
no_fault bytes doc faults.NotJson is wrong = absurd (wrong.1 is.1.0 is.1.1)
no_fault bytes doc (faults.Shape p) is wrong = absurd (shaped bytes doc is wrong.1.0 wrong.1.1 p wrong.1.2)
no_fault bytes doc faults.Memory is wrong = refl
no_fault bytes doc (faults.Graph f) is wrong = settled bytes doc (faults.Graph f) is wrong.1.0 wrong.1.1 wrong.1.2.0 wrong.1.2.1 wrong.1.2.2
no_fault bytes doc (faults.Claim n f) is wrong = settled bytes doc (faults.Claim n f) is wrong.1.0 wrong.1.1 wrong.1.2.0 wrong.1.2.1 wrong.1.2.2
no_fault bytes doc (faults.Certificate n f) is wrong = settled bytes doc (faults.Certificate n f) is wrong.1.0 wrong.1.1 wrong.1.2.0 wrong.1.2.1 wrong.1.2.2
no_fault bytes doc (faults.Start f) is wrong = settled bytes doc (faults.Start f) is wrong.1.0 wrong.1.1 wrong.1.2.0 wrong.1.2.1 wrong.1.2.2
