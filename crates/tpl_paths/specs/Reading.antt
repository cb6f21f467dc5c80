-- How a body is read, in memory.
use Rattle.std.specs.Prelude.{Option, None, option_map, slice_get, slice_index_or, if◌then◌else◌}
use Rattle.std.specs.Borrow.{Bor}
use Rattle.tpl_model.specs.Members.{mem}
use Rattle.tpl_model.specs.Knowledge.{ChildEnd, Reading}
use Rattle.tpl_model.specs.View.{known}
use Rattle.tpl_paths.specs.declared.reading.ChildEnd.{ChildEnd as StoredChildEnd}
use Rattle.tpl_paths.specs.declared.reading.Reading.{Reading as StoredReading}
use Rattle.tpl_paths.specs.TokenSet.{has_token, no_tokens}
use Rattle.tpl_paths.specs.Facts.{has_fact}

-- how a task may end, as the definitions have it
abbrev pub end_of : StoredChildEnd → ChildEnd
end_of c = record { ends = c.ends; facts = has_fact c.facts }

-- the same of a child, if it is an attached one
abbrev pub child_of : Option (Bor StoredChildEnd) → Option ChildEnd
child_of child = option_map (λ (c : Bor StoredChildEnd). end_of c.now) child

-- the same as the definitions have it: a token past the last entry has none that are requested with it, and a task past
-- the last entry is no child
abbrev pub reading_of : StoredReading → Reading
reading_of r = record {
  known = known r.view.now;
  linked = λ k. has_token (slice_index_or r.linked.now k no_tokens);
  child = λ c. if mem c r.attached.now then option_map end_of (slice_get r.ends.now c) else None;
}
