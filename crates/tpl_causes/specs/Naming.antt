-- The names of what a graph has.
use Rattle.std.specs.Prelude.{ℕ, List, codes, slice_index_or}
use Rattle.tpl_draft.specs.Named.{Names}
use Rattle.tpl_causes.specs.declared.naming.Named.{Named}
use Rattle.tpl_causes.specs.declared.naming.Named.TheVariants.{Task, Token, Site, Input}

-- the name at this place, or a question mark where there is none
abbrev pub name_or_mark : List (List ℕ) → ℕ → List ℕ
name_or_mark names i = slice_index_or names i (codes "?")

-- the name of what a graph has names for
abbrev pub named_text : Names → Named → List ℕ
named_text names (Task t) = name_or_mark names.tasks t.0
named_text names (Token k) = name_or_mark names.tokens k.0
named_text names (Site s) = name_or_mark names.sites s.0
named_text names (Input i) = name_or_mark names.inputs i.0
