-- A set of endings, read one after another.
use Rattle.std.proofs.Common.{◌≡◌, ℕ, ◌+◌, ◌<◌, ◌≤◌, List, length, get_or, drop, map, Some, refl, drop-cons, add-one}
use Rattle.std.proofs.lemmas.List.{drop_all}
use Rattle.tpl_json.specs.View.{Value, view}
use Rattle.tpl_model.specs.declared.finals.Final.{Final}
use Rattle.tpl_model.specs.declared.finals.Finals.{Finals}
use Rattle.tpl_json.specs.declared.miss.Miss.{Miss}
use Rattle.tpl_json.specs.declared.miss.Shape.{Shape}
use Rattle.tpl_json.specs.declared.miss.Miss.TheVariants as misses
use Rattle.tpl_json.specs.Members.{Misses}
use Rattle.tpl_json.specs.Finals.{finals_at, final_at, with_final}

pub finals_step : (e : Finals) (vs : List Value) (i : ℕ) (v : Value) (f : Final) → i < length vs → v ≡ get_or vs i v → final_at (view v) ≡ Some f → finals_at e (map view (drop i vs)) ≡ finals_at (with_final f e) (map view (drop (i + 1) vs))
unfolding finals_at
finals_step e vs i v f lt is h = rw (drop-cons vs i v lt, ← is, h, add-one) refl

pub finals_stop : (e : Finals) (vs : List Value) (i : ℕ) (v : Value) (m : Miss Shape) → i < length vs → v ≡ get_or vs i v → Misses m (final_at (view v)) → Misses m (finals_at e (map view (drop i vs)))
unfolding finals_at
finals_stop e vs i v misses.Memory lt is h = tt
finals_stop e vs i v (misses.Wrong shape) lt is h = rw (drop-cons vs i v lt, ← is, h) refl

pub finals_done : (e : Finals) (vs : List Value) (i : ℕ) → length vs ≤ i → finals_at e (map view (drop i vs)) ≡ Some e
unfolding finals_at
finals_done e vs i le = rw (drop_all i vs le) refl
