-- The final statuses that JSON values are, `None` where one is none.
use Rattle.std.specs.Prelude.{ℕ, List, [], ◌∷◌, Option, Some, None, true, false, codes, if◌then◌else◌}
use Rattle.std.specs.Str.{bytes_eq}
use Rattle.serde_json.specs.Data.{Data}
use Rattle.serde_json.specs.Find.{as_str}
use Rattle.tpl_model.specs.declared.finals.Final.{Final}
use Rattle.tpl_model.specs.declared.finals.Final.TheVariants.{RanToCompletion, Canceled, Faulted}
use Rattle.tpl_model.specs.declared.finals.Finals.{Finals}
use Rattle.tpl_json.specs.Members.{◌>>=◌}

-- the empty set
abbrev pub no_finals : Finals
no_finals = record { ran = false; canceled = false; faulted = false }

-- the set with one more
abbrev pub with_final : Final → Finals → Finals
with_final RanToCompletion e = record e { ran = true }
with_final Canceled e = record e { canceled = true }
with_final Faulted e = record e { faulted = true }

-- a final status, by its name
unfoldable pub final_word : List ℕ → Option Final
final_word word = if bytes_eq word (codes "RanToCompletion") then Some RanToCompletion else (if bytes_eq word (codes "Canceled") then Some Canceled else (if bytes_eq word (codes "Faulted") then Some Faulted else None))

-- a text that is such a name
unfoldable pub final_at : Data → Option Final
final_at d = as_str d >>= final_word

-- the final statuses of a list, with those that were read before
unfoldable pub finals_at : Finals → List Data → Option Finals
finals_at e [] = Some e
finals_at e (d ∷ ds) = do
  f ← final_at d
  finals_at (with_final f e) ds
