-- The option words of a list, one after another.
use Rattle.std.proofs.Common.{◌≡◌, ℕ, ◌+◌, ◌<◌, ◌≤◌, List, length, get_or, drop, map, Some, refl, drop-cons, add-one}
use Rattle.std.specs.Int.RustNames.{bit_or}
use Rattle.std.proofs.lemmas.List.{drop_all}
use Rattle.tpl_json.specs.View.{Value, view}
use Rattle.tpl_json.specs.declared.miss.Miss.{Miss}
use Rattle.tpl_json.specs.declared.miss.Shape.{Shape}
use Rattle.tpl_json.specs.declared.miss.Miss.TheVariants as misses
use Rattle.tpl_json.specs.Members.{Misses}
use Rattle.tpl_parts.specs.Tasks.{option_at, options_at}

pub options_step : (e : ℕ) (vs : List Value) (i : ℕ) (v : Value) (o : ℕ) → i < length vs → v ≡ get_or vs i v → option_at (view v) ≡ Some o → options_at e (map view (drop i vs)) ≡ options_at (bit_or e o) (map view (drop (i + 1) vs))
unfolding options_at
options_step e vs i v o lt is h = rw (drop-cons vs i v lt, ← is, h, add-one) refl

pub options_stop : (e : ℕ) (vs : List Value) (i : ℕ) (v : Value) (m : Miss Shape) → i < length vs → v ≡ get_or vs i v → Misses m (option_at (view v)) → Misses m (options_at e (map view (drop i vs)))
unfolding options_at
options_stop e vs i v misses.Memory lt is h = tt
options_stop e vs i v (misses.Wrong shape) lt is h = rw (drop-cons vs i v lt, ← is, h) refl

pub options_done : (e : ℕ) (vs : List Value) (i : ℕ) → length vs ≤ i → options_at e (map view (drop i vs)) ≡ Some e
unfolding options_at
options_done e vs i le = rw (drop_all i vs le) refl
