-- Which document bytes spell, and what is wrong with bytes that spell none.
use Rattle.std.specs.Prelude.{◌≡◌, ◌≤◌, ◌<◌, ℕ, Bool, List, Option, Some, length, map, Result, Ok, Err, ok_or, IsUtf8}
use Rattle.serde_json.specs.Data.{Data}
use Rattle.serde_json.specs.Read.{read}
use Rattle.tpl_model.specs.declared.ids.TaskId.{TaskId}
use Rattle.tpl_model.specs.declared.finals.Final.{Final}
use Rattle.tpl_model.specs.Claims.{Claim}
use Rattle.tpl_model.specs.Certificate.{Tree}
use Rattle.tpl_draft.specs.Named.{Named}
use Rattle.tpl_draft.specs.Numbered.{numbered}
use Rattle.tpl_draft.specs.Refusals.{IsValid, IsLeast}
use Rattle.tpl_json.specs.Members.{only_if}
use Rattle.tpl_parts.specs.declared.version.Version.{Version}
use Rattle.tpl_parts.specs.Versions.{rules_since}
use Rattle.tpl_parts.specs.Start.{NamedStart}
use Rattle.tpl_json.specs.Passes.{◌>>=◌}
use Rattle.tpl_reader.specs.declared.read.TheConstants.{LONGEST}
use Rattle.tpl_reader.specs.Bytes.{behind_mark, journal_in}
use Rattle.tpl_reader.specs.Begin.{StartValue, start_if_any}
use Rattle.tpl_reader.specs.Ends.{knows_ends, ends_in}
use Rattle.tpl_reader.specs.Shape.{Spelled, spelled_at}
use Rattle.tpl_reader.specs.Asked.{claims_for}
use Rattle.tpl_reader.specs.Trees.{trees_in}
use Rattle.tpl_reader.specs.declared.fault.StartFault.{StartFault}
use Rattle.tpl_reader.specs.declared.fault.StartFault.TheVariants as starts
use Rattle.tpl_reader.specs.declared.fault.ReadFault.{ReadFault}
use Rattle.tpl_reader.specs.declared.fault.ReadFault.TheVariants as faults

-- ---- with ids in place of names

-- a document; before version 3 its certificate says nothing of tokens and of winners, and has rows in each leaf
pub record DocumentValue : Type 0 where
  pub version : Version
  pub graph : Named
  pub claims : List Claim
  pub names : List (Option (List ℕ))
  pub certificate : List Tree
  pub journal : List ℕ
  pub start : Option StartValue
  pub ended : List (TaskId × Final)
  pub times : Option (List ℕ)

-- the start, where the ends that were seen are those of tasks
unfoldable pub begin_in : Named → Option NamedStart → Option Data → Result (Option StartValue) StartFault
begin_in g start ended = do
  known ← ok_or (only_if (knows_ends g.names.tasks ended)) starts.Unknown
  start_if_any g start

-- the document that is spelled
pub record IsDocument (s : Spelled) (doc : DocumentValue) : Type 0 where
  pub version : doc.version ≡ s.version
  pub valid : IsValid s.draft
  pub graph : doc.graph ≡ numbered s.draft
  pub claims : claims_for s.version doc.graph s.claims ≡ Ok doc.claims
  pub names : doc.names ≡ map (λ c. c.name) s.claims
  pub certificate : trees_in (rules_since s.version) doc.graph.names s.certificate ≡ Ok doc.certificate
  pub journal : doc.journal ≡ journal_in s.version s.journal
  pub start : begin_in doc.graph s.start s.ended ≡ Ok doc.start
  pub ended : doc.ended ≡ ends_in doc.graph.names.tasks s.ended
  pub times : doc.times ≡ s.times

-- the draft spells a graph of which the claims can be asked
abbrev pub HasClaims : Spelled → Type 0
HasClaims s = IsValid s.draft × ((claims : List Claim) × (claims_for s.version (numbered s.draft) s.claims ≡ Ok claims))

-- and the trees are read
abbrev pub HasTrees : Spelled → Type 0
HasTrees s = HasClaims s × ((trees : List Tree) × (trees_in (rules_since s.version) (numbered s.draft).names s.certificate ≡ Ok trees))

-- what is wrong with a document of the right shape: the graph, then a claim, then a tree, then the start
abbrev pub IsRefused : Spelled → ReadFault → Type 0
IsRefused s (faults.Graph f) = IsLeast s.draft f
IsRefused s (faults.Claim n f) = IsValid s.draft × (claims_for s.version (numbered s.draft) s.claims ≡ Err (n, f))
IsRefused s (faults.Certificate n f) = HasClaims s × (trees_in (rules_since s.version) (numbered s.draft).names s.certificate ≡ Err (n, f))
IsRefused s (faults.Start f) = HasTrees s × (begin_in (numbered s.draft) s.start s.ended ≡ Err f)
IsRefused s faults.Memory = Unit {0}
IsRefused s faults.TooLong = ⊥
IsRefused s faults.NotJson = ⊥
IsRefused s (faults.Shape p) = ⊥

-- ---- bytes

-- the most bytes of a document
abbrev pub longest : ℕ
longest = LONGEST

-- what the bytes read as; a byte order mark at the front is passed over
abbrev pub Reads : List ℕ → Data → Type 0
Reads bytes d = IsUtf8 (behind_mark bytes) × (read (behind_mark bytes) ≡ Some d)

-- the bytes spell the document
abbrev pub Spells : List ℕ → DocumentValue → Type 0
Spells bytes doc = (length bytes ≤ longest) × ((d : Data) × Reads bytes d × ((s : Spelled) × (spelled_at d ≡ Ok s) × IsDocument s doc))

-- the graph and the claims that are spelled
abbrev pub AreClaims : Spelled → Named → List Claim → Type 0
AreClaims s graph claims = IsValid s.draft × (graph ≡ numbered s.draft) × (claims_for s.version graph s.claims ≡ Ok claims)

-- the bytes spell a document with this graph and these claims, whatever else it says
abbrev pub SpellsClaims : List ℕ → Named → List Claim → Type 0
SpellsClaims bytes graph claims =
    (length bytes ≤ longest) × ((d : Data) × Reads bytes d × ((s : Spelled) × (spelled_at d ≡ Ok s) × AreClaims s graph claims))

-- the start gives these inputs
abbrev pub GivesInputs : Spelled → Named → List Bool → Type 0
GivesInputs s graph inputs = (start : StartValue) × (begin_in graph s.start s.ended ≡ Ok (Some start)) × (start.inputs ≡ inputs)

-- the bytes spell a document with this graph and these claims, these inputs and this journal
abbrev pub SpellsClaimsWith : List ℕ → Named → List Claim → List Bool → List ℕ → Type 0
SpellsClaimsWith bytes graph claims inputs journal =
    (length bytes ≤ longest)
    × ((d : Data) × Reads bytes d × ((s : Spelled) × (spelled_at d ≡ Ok s) × AreClaims s graph claims × GivesInputs s graph inputs × (journal ≡ journal_in s.version s.journal)))

-- what is wrong with bytes that spell no document, memory aside
abbrev pub IsFault : List ℕ → ReadFault → Type 0
IsFault bytes faults.TooLong = longest < length bytes
IsFault bytes faults.NotJson = (length bytes ≤ longest) × ((d : Data) → Reads bytes d → ⊥)
IsFault bytes (faults.Shape p) = (length bytes ≤ longest) × ((d : Data) × Reads bytes d × (spelled_at d ≡ Err p))
IsFault bytes faults.Memory = Unit {0}
IsFault bytes e = (length bytes ≤ longest) × ((d : Data) × Reads bytes d × ((s : Spelled) × (spelled_at d ≡ Ok s) × IsRefused s e))
