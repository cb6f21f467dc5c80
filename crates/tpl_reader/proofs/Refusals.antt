-- From what is wrong with a part of a document to what is wrong with it.
use Rattle.std.proofs.Common.{◌≡◌, ◌≤◌, ℕ, List, length, Ok, Bool, true, false, cond, inl, inr, refl, subst, sym}
use Rattle.serde_json.specs.Data.{Data}
use Rattle.tpl_model.specs.Claims.{Claim}
use Rattle.tpl_model.specs.Certificate.{Tree}
use Rattle.tpl_draft.specs.Named.{Named}
use Rattle.tpl_draft.specs.Numbered.{numbered}
use Rattle.tpl_draft.specs.Refusals.{IsValid, Refuses}
use Rattle.tpl_draft.specs.declared.fault.GraphFault.{GraphFault}
use Rattle.tpl_cert.specs.declared.fault.TreeFault.{TreeFault}
use Rattle.tpl_json.specs.declared.miss.Miss.{Miss}
use Rattle.tpl_json.specs.declared.miss.Miss.TheVariants as miss
use Rattle.tpl_reader.specs.declared.fault.Part.{Part}
use Rattle.tpl_reader.specs.declared.fault.ClaimFault.{ClaimFault}
use Rattle.tpl_reader.specs.declared.fault.StartFault.{StartFault}
use Rattle.tpl_reader.specs.declared.fault.ReadFault.{ReadFault}
use Rattle.tpl_reader.specs.declared.fault.ReadFault.TheVariants as faults
use Rattle.tpl_json.specs.Passes.{Fails}
use Rattle.tpl_reader.specs.Faults.{is_memory, shape_fault, graph_fault, claim_fault, tree_fault, start_fault}
use Rattle.tpl_reader.specs.Asked.{claims_for}
use Rattle.tpl_parts.specs.Versions.{rules_since}
use Rattle.tpl_reader.specs.Trees.{trees_in}
use Rattle.tpl_reader.specs.Shape.{Spelled, spelled_at}
use Rattle.tpl_reader.specs.Document.{begin_in, IsRefused, longest, Reads, IsFault}

by_memory : (s : Spelled) (f : GraphFault) (b : Bool) → is_memory f.why ≡ b → Refuses s.draft f → IsRefused s (cond b faults.Memory (faults.Graph f))
by_memory s f true is h = tt
by_memory s f false is (inl memory) = let no : true ≡ false = rw memory.0 at is in absurd cc
by_memory s f false is (inr least) = least

pub graph_refused : (s : Spelled) (f : GraphFault) → Refuses s.draft f → IsRefused s (graph_fault f)
graph_refused s f h = by_memory s f (is_memory f.why) refl h

-- want of memory can be said of any document
pub memory_refused : (s : Spelled) (e : ReadFault) → e ≡ faults.Memory → IsRefused s e
memory_refused s e is = subst (IsRefused s) (sym is) tt

module _ (s : Spelled) (g : Named) (valid : IsValid s.draft) (is : g ≡ numbered s.draft) where
  pub claim_refused : (e : Miss (ℕ × ClaimFault)) → Fails e (claims_for s.version g s.claims) → IsRefused s (claim_fault e)
  claim_refused (miss.Wrong (n, f)) h = (valid, rw is at h)
  claim_refused miss.Memory h = tt

  module _ (cs : List Claim) (claims : claims_for s.version g s.claims ≡ Ok cs) where
    pub tree_refused : (e : Miss (ℕ × TreeFault)) → Fails e (trees_in (rules_since s.version) g.names s.certificate) → IsRefused s (tree_fault e)
    tree_refused (miss.Wrong (n, f)) h = ((valid, (cs, rw is at claims)), rw is at h)
    tree_refused miss.Memory h = tt

    pub start_refused : (ts : List Tree) → trees_in (rules_since s.version) g.names s.certificate ≡ Ok ts → (e : Miss StartFault) → Fails e (begin_in g s.start s.ended) → IsRefused s (start_fault e)
    start_refused ts trees (miss.Wrong f) h = (((valid, (cs, rw is at claims)), (ts, rw is at trees)), rw is at h)
    start_refused ts trees miss.Memory h = tt

-- what has the wrong shape
pub misshapen : (bytes : List ℕ) (d : Data) → length bytes ≤ longest → Reads bytes d → (e : Miss Part) → Fails e (spelled_at d) → IsFault bytes (shape_fault e)
misshapen bytes d le reads (miss.Wrong p) h = (le, (d, reads, h))
misshapen bytes d le reads miss.Memory h = tt
