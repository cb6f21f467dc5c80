-- What is true of the documents that bytes spell.
use Rattle.std.specs.Prelude.{◌≡◌, ◌≤◌, ℕ, List, codes, length, Ok}
use Rattle.std.specs.List.{All}
use Rattle.serde_json.specs.Data.{Data, Members, object, put}
use Rattle.tpl_model.specs.declared.rule_set.RuleSet.{RuleSet}
use Rattle.tpl_model.specs.Certificate.{Tree}
use Rattle.tpl_draft.specs.Named.{Names}
use Rattle.tpl_cert.specs.Spelled.{read_tree}
use Rattle.tpl_cert.specs.Written.{tree_data, certificate_data}
use Rattle.tpl_parts.specs.Versions.{rules_since}
use Rattle.tpl_reader.specs.declared.fault.ReadFault.{ReadFault}
use Rattle.tpl_reader.specs.declared.fault.ReadFault.TheVariants.{Memory}
use Rattle.tpl_reader.specs.Document.{DocumentValue, Reads, Spells, IsFault, longest}

-- bytes spell one document at most
abbrev pub SpellsOneDocument : Type 0
SpellsOneDocument = (bytes : List ℕ) (doc other : DocumentValue) → Spells bytes doc → Spells bytes other → other ≡ doc

-- of bytes that spell a document no fault is true, memory aside
abbrev pub SpelledHasNoFault : Type 0
SpelledHasNoFault = (bytes : List ℕ) (doc : DocumentValue) (fault : ReadFault) → Spells bytes doc → IsFault bytes fault → fault ≡ Memory

-- an object with this value for its member `certificate`, and all else as it was
abbrev pub HasCertificate : Data → Data → Data → Type 0
HasCertificate d certificate with = (ms : Members) × (d ≡ object ms) × (with ≡ object (put (codes "certificate") certificate ms))

-- the bytes are a text of what these others are a text of, with this value for the member `certificate`
abbrev pub HoldsCertificate : List ℕ → Data → List ℕ → Type 0
HoldsCertificate bytes certificate with = (d : Data) × (e : Data) × Reads bytes d × Reads with e × HasCertificate d certificate e

-- what is written for a tree by the rules is read as that tree by them
abbrev pub IsReadBack : RuleSet → Names → Tree → Type 0
IsReadBack rules names tree = read_tree rules names (tree_data rules names tree) ≡ Ok tree

-- with what is written for such trees by its own rules as its member `certificate` a document that isn't too long then is spelled with these trees, and all else as it was
abbrev pub CertificateIsReadBack : Type 0
CertificateIsReadBack =
    (bytes with : List ℕ) (doc : DocumentValue) (trees : List Tree)
    → Spells bytes doc → All (IsReadBack (rules_since doc.version) doc.graph.names) trees → HoldsCertificate bytes (certificate_data (rules_since doc.version) doc.graph.names trees) with → length with ≤ longest
    → Spells with (record doc { certificate = trees })
