-- Rows while they are worked out, one by one.
use Rattle.std.proofs.Common.{◌≡◌, ℕ, zero, suc, Bool, false, if◌then◌else◌, List, [], ◌∷◌, length, map, slice_set, refl, sym, ap, ◌∙◌, ◌<◌, subst}
use Rattle.std.proofs.lemmas.List.{length-set, map-set, length-map}
use Rattle.tpl_model.specs.declared.finals.Finals.{Finals}
use Rattle.tpl_model.specs.Graph.{TaskGraph}
use Rattle.tpl_model.specs.Certificate.{PlainRow, Row}
use Rattle.tpl_paths.specs.declared.reading.ChildEnd.{ChildEnd as StoredChildEnd}
use Rattle.tpl_paths.specs.Reading.{end_of}
use Rattle.tpl_token_leaf.specs.Leaf.{row_end}
use Rattle.tpl_token_check.specs.declared.rows.Rows.{Rows}
use Rattle.tpl_token_check.specs.Rows.{AreRows, IsRows}

pub row_put : (r new : Rows) (t : ℕ) (row : Row) (e : StoredChildEnd) → new.ends.items ≡ slice_set r.ends.items t e → new.rows.items ≡ slice_set r.rows.items t row → end_of e ≡ row_end row
    → (g : TaskGraph) → IsRows g r → AreRows g (slice_set r.rows.items t row) new
row_put r new t row e es rs same g a = record {
  same = rs;
  kept = record {
    count = ap length rs ∙ (length-set r.rows.items t row ∙ a.count);
    ends =
        ap (λ (xs : List StoredChildEnd). map end_of xs) es
        ∙ (map-set end_of r.ends.items t e ∙ ((λ i. slice_set (a.ends i) t (same i)) ∙ (sym (map-set row_end r.rows.items t row) ∙ ap (λ (xs : List Row). map row_end xs) (sym rs))));
  };
}

pub has_end : (g : TaskGraph) (r : Rows) (t : ℕ) → IsRows g r → t < length g.tasks → t < length r.ends.items
has_end g r t a lt = subst (λ n. t < n) (sym (sym (length-map r.ends.items end_of) ∙ (ap length a.ends ∙ (length-map r.rows.items row_end ∙ a.count)))) lt

-- a row by its parts
pub row_is : (r : PlainRow) (ends : Finals) (runs : Bool) (before past chain : List ℕ) → r.ends ≡ ends → r.runs ≡ runs → r.before ≡ before → r.past ≡ past → r.chain ≡ chain
    → r ≡ record { ends = ends; runs = runs; before = before; past = past; chain = chain }
row_is r ends runs before past chain e u b p c = λ i. record { ends = e i; runs = u i; before = b i; past = p i; chain = c i }

pub token_row_is : (r : Row) (row : PlainRow) (asked asks : List ℕ) → r.row ≡ row → r.asked ≡ asked → r.asks ≡ asks → r ≡ record { row = row; asked = asked; asks = asks }
token_row_is r row asked asks e a b = λ i. record { row = e i; asked = a i; asks = b i }
