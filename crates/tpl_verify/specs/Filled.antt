-- A document in which the inputs and the journal are filled in.
use Rattle.std.specs.Prelude.{◌≡◌, ◌≤◌, ℕ, ◌<◌, Bool, true, false, List, [], length, Option, Some, None, Ok, is_some, codes, slice_index_or, if◌then◌else◌}
use Rattle.std.specs.Str.{bytes_eq}
use Rattle.serde_json.specs.Data.{Data, Members, no_members, member, boolean, string, object, put, members_depth}
use Rattle.serde_json.specs.Find.{get, get_member, as_bool}
use Rattle.tpl_cert.specs.Written.{name_at}
use Rattle.tpl_reader.specs.Begin.{StartValue, declares}
use Rattle.tpl_parts.specs.Start.{all_values}
use Rattle.tpl_reader.specs.Shape.{Spelled, spelled_at}
use Rattle.tpl_reader.specs.Document.{DocumentValue, IsDocument, Reads}

-- the start with these inputs; nothing is requested first and no job is to fail, where the document has no start
abbrev pub started : Option StartValue → List Bool → StartValue
started None inputs = record { inputs = inputs; request = []; fail = [] }
started (Some start) inputs = record start { inputs = inputs }

-- the document with these inputs and this journal, without what was seen of another run, and all else as it was
abbrev pub with_run : DocumentValue → List Bool → List ℕ → DocumentValue
with_run doc inputs journal = record doc { journal = journal; start = Some (started doc.start inputs); ended = []; times = None }

-- the bytes are a text of the document, which may be longer than one that is read
abbrev pub IsTextOf : List ℕ → DocumentValue → Type 0
IsTextOf bytes doc = (d : Data) × Reads bytes d × ((s : Spelled) × (spelled_at d ≡ Ok s) × IsDocument s doc)

-- the value has the shape of a document
abbrev pub HasForm : Data → Type 0
HasForm d = (s : Spelled) × (spelled_at d ≡ Ok s)

-- ---- the members that are put into a document

-- the members give the first inputs these values
pub record AreFirst (names : List (List ℕ)) (values : List Bool) (count : ℕ) (members : Members) : Type 0 where
  pub each : (i : ℕ) → i < count → get_member (name_at names i) members ≡ Some (boolean (slice_index_or values i false))
  pub declared : declares names members ≡ true
  pub truths : all_values (λ d. is_some (as_bool d)) members ≡ true
  pub flat : members_depth members ≤ 0

-- the start that stands in the document, or an empty one
abbrev pub start_data : Option Data → Data
start_data None = object no_members
start_data (Some d) = d

-- the start with these inputs
pub record IsStartWith (names : List (List ℕ)) (values : List Bool) (old : Option Data) (new : Data) : Type 0 where
  pub members : Members
  pub old_is : start_data old ≡ object members
  pub inputs : Members
  pub all : AreFirst names values (length names) inputs
  pub new_is : new ≡ object (put (codes "inputs") (object inputs) members)

-- the members without the first of this name
abbrev pub without : List ℕ → Members → Members
without k no_members = no_members
without k (member l e ms) = if bytes_eq k l then ms else member l e (without k ms)

-- the document without what was seen of a run
pub record IsUnseen (old new : Data) : Type 0 where
  pub members : Members
  pub old_is : old ≡ object members
  pub no_ended : get (codes "ended") (object (without (codes "ended") members)) ≡ None
  pub no_times : get (codes "times") (object (without (codes "times") (without (codes "ended") members))) ≡ None
  pub new_is : new ≡ object (without (codes "times") (without (codes "ended") members))

-- what the bytes read as, without what was seen of a run
abbrev pub IsUnseenOf : List ℕ → Data → Type 0
IsUnseenOf bytes d = (old : Data) × Reads bytes old × IsUnseen old d

-- the document with this start and this journal
pub record IsFilled (start : Data) (journal : List ℕ) (old new : Data) : Type 0 where
  pub members : Members
  pub old_is : old ≡ object members
  pub new_is : new ≡ object (put (codes "journal") (string journal) (put (codes "start") start members))
