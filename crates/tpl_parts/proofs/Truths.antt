-- The members of an object, whose values all pass a test.
use Rattle.std.proofs.Common.{◌≡◌, ℕ, ◌&&◌, List, [], ◌∷◌, ◌++◌, map, Bool, Ordering, Less, Equal, Greater, refl, ap, ◌∙◌}
use Rattle.std.specs.Borrow.{Bor}
use Rattle.std.specs.BTreeMap.{insert_entry}
use Rattle.std.specs.List.{list_all}
use Rattle.std.specs.Map.{values_of}
use Rattle.std.specs.Ordering.{nat_cmp, match_ordering}
use Rattle.std.specs.Cmp.Lexicographic.{slice_cmp}
use Rattle.json.specs.Value.{members_view}
use Rattle.serde_json.specs.Data.{Data, Members, no_members, member, put}
use Rattle.tpl_json.specs.View.{Value, view, members_from}
use Rattle.tpl_json.proofs.DataOf.{members_more}
use Rattle.tpl_parts.specs.Start.{all_values}

-- ---- which members pass the test

abbrev pub Noted : Type 0
Noted = List ℕ × Bool

abbrev pub noted : (Data → Bool) → Members → List Noted
noted p no_members = []
noted p (member k d ms) = (k, p d) ∷ noted p ms

abbrev note : List ℕ → Bool → List Noted → List Noted
note k b [] = (k, b) ∷ []
note k b (p ∷ ps) = match_ordering (slice_cmp nat_cmp k p.0) ((k, b) ∷ p ∷ ps) ((p.0, b) ∷ ps) (p ∷ note k b ps)

noted_at : (p : Data → Bool) (o : Ordering) (a b c : Members) → noted p (match_ordering o a b c) ≡ match_ordering o (noted p a) (noted p b) (noted p c)
noted_at p Less a b c = refl
noted_at p Equal a b c = refl
noted_at p Greater a b c = refl

noted_put : (p : Data → Bool) (k : List ℕ) (d : Data) (ms : Members) → noted p (put k d ms) ≡ note k (p d) (noted p ms)
noted_put p k d no_members = refl
noted_put p k d (member l e ms) = noted_at p (slice_cmp nat_cmp k l) _ _ _ ∙ rw (noted_put p k d ms)

abbrev pub Entry : Type 0
Entry = Bor (List ℕ) × Bool

abbrev pub seen : Entry → Noted
seen e = (e.0.now, e.1)

abbrev pub text_cmp : Bor (List ℕ) → Bor (List ℕ) → Ordering
text_cmp a b = slice_cmp nat_cmp a.now b.now

seen_at : (o : Ordering) (a b c : List Entry) → map seen (match_ordering o a b c) ≡ match_ordering o (map seen a) (map seen b) (map seen c)
seen_at Less a b c = refl
seen_at Equal a b c = refl
seen_at Greater a b c = refl

seen_insert : (es : List Entry) (k : Bor (List ℕ)) (b : Bool) → map seen (insert_entry text_cmp es k b) ≡ note k.now b (map seen es)
seen_insert [] k b = refl
seen_insert (e ∷ es) k b = seen_at (text_cmp k e.0) _ _ _ ∙ rw (seen_insert es k b)

-- after one member more
pub noted_more : (p : Data → Bool) (ms : List (Bor (List ℕ) × Value)) (m : Bor (List ℕ) × Value) (es : List Entry) (b : Bool) → map seen es ≡ noted p (members_from (members_view ms) no_members) → b ≡ p (view m.1)
    → map seen (insert_entry text_cmp es m.0 b) ≡ noted p (members_from (members_view (ms ++ m ∷ [])) no_members)
noted_more p ms m es b before is =
    seen_insert es m.0 b ∙ rw (before, is, members_more ms m no_members, noted_put p m.0.now (view m.1) (members_from (members_view ms) no_members)) refl

all_noted : (p : Data → Bool) (ms : Members) → list_all (λ e. e.1) (noted p ms) ≡ all_values p ms
all_noted p no_members = refl
all_noted p (member k d ms) = ap (λ b. p d && b) (all_noted p ms)

all_seen : (es : List Entry) → list_all (λ b. b) (values_of es) ≡ list_all (λ p. p.1) (map seen es)
all_seen [] = refl
all_seen (e ∷ es) = ap (λ b. e.1 && b) (all_seen es)

-- and after the last
pub all_values_of : (p : Data → Bool) (es : List Entry) (ms : Members) → map seen es ≡ noted p ms → list_all (λ b. b) (values_of es) ≡ all_values p ms
all_values_of p es ms e = all_seen es ∙ ap (list_all (λ e. e.1)) e ∙ all_noted p ms
