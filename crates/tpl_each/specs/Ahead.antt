-- The bytes that come.
use Rattle.std.specs.Prelude.{ℕ, List, slice_range, Option}
use Rattle.std.specs.Io.KnownBytes.{prepend_known}
use Rattle.tpl_journal.specs.declared.counting.Counting.{Counting}
use Rattle.tpl_journal.specs.Counting.{remaining_of}
use Rattle.tpl_each.specs.declared.ahead.Ahead.{Ahead}

-- the bytes that were read and belong to lines that come
abbrev pub ahead_of : Ahead → List ℕ
ahead_of ahead = slice_range ahead.block ahead.start ahead.end

-- the bytes that come, where they are known
abbrev pub coming : {R : Type 0} → (R → Option (List ℕ)) → Ahead → Counting R → Option (List ℕ)
coming remaining ahead from = prepend_known (ahead_of ahead) (remaining_of remaining from)
