-- Members that are truth values or final statuses.
use Rattle.std.proofs.Common.{◌≡◌, Bool, Option, Result, Ok, Err, is_some, refl}
use Rattle.std.specs.Prelude.{is_ok, IfErr}
use Rattle.serde_json.specs.Data.{Data}
use Rattle.serde_json.specs.Find.{as_bool}
use Rattle.tpl_json.specs.declared.miss.Miss.{Miss}
use Rattle.tpl_json.specs.declared.miss.Miss.TheVariants as miss
use Rattle.tpl_json.specs.declared.miss.Shape.{Shape}
use Rattle.tpl_json.specs.Finals.{final_at}
use Rattle.tpl_json.specs.Members.{Gives, IsShape}

abbrev pub is_truth : Data → Bool
is_truth d = is_some (as_bool d)

abbrev pub is_end : Data → Bool
is_end d = is_some (final_at d)

-- what was read of a value says whether it is of this form
pub is_read : {A : Type 0} (r : Result A (Miss Shape)) (o : Option A) (b : Bool) → Gives (λ x. x) r o → IfErr r IsShape → b ≡ is_ok r → b ≡ is_some o
is_read (Ok x) o b gives shape is = rw (is, gives) refl
is_read (Err (miss.Wrong s)) o b gives shape is = rw (is, gives) refl
is_read (Err miss.Memory) o b gives shape is = absurd shape
