-- Numbers in range, one value after another.
use Rattle.std.proofs.Common.{◌≡◌, ℕ, ◌+◌, ◌<◌, ◌≤◌, ◌&&◌, List, length, get_or, drop, true, refl, drop-cons, add-one}
use Rattle.std.specs.Borrow.{Bor}
use Rattle.std.proofs.lemmas.List.{drop_all}
use Rattle.json.specs.Value.{value_view, items_view, members_view}
use Rattle.tpl_json.specs.View.{Value}
use Rattle.tpl_json.specs.Numbers.{in_range, items_in_range, members_in_range}

pub item_step : (vs : List Value) (i : ℕ) (v : Value) → i < length vs → v ≡ get_or vs i v
    → items_in_range (items_view (drop i vs)) ≡ (in_range (value_view v) && items_in_range (items_view (drop (i + 1) vs)))
item_step vs i v lt is = rw (drop-cons vs i v lt, ← is, add-one) refl

pub items_done : (vs : List Value) (i : ℕ) → length vs ≤ i → items_in_range (items_view (drop i vs)) ≡ true
items_done vs i le = rw (drop_all i vs le) refl

pub member_step : (ms : List (Bor (List ℕ) × Value)) (i : ℕ) (m : Bor (List ℕ) × Value) → i < length ms → m ≡ get_or ms i m
    → members_in_range (members_view (drop i ms)) ≡ (in_range (value_view m.1) && members_in_range (members_view (drop (i + 1) ms)))
member_step ms i m lt is = rw (drop-cons ms i m lt, ← is, add-one) refl

pub members_done : (ms : List (Bor (List ℕ) × Value)) (i : ℕ) → length ms ≤ i → members_in_range (members_view (drop i ms)) ≡ true
members_done ms i le = rw (drop_all i ms le) refl
