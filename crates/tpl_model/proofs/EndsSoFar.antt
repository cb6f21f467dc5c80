-- The loop over a list of statements that joins how their paths end.
use Rattle.std.proofs.Common.{◌≡◌, ℕ, ◌+◌, ◌<◌, ◌≤◌, Bool, true, false, not, ◌&&◌, ◌||◌, List, length, drop, get_or, refl, sym, ap, ◌∙◌}
use Rattle.std.proofs.lemmas.List.{drop_all}
use Rattle.tpl_model.proofs.Truths.{and_assoc, and_true}
use Rattle.tpl_model.specs.declared.body.Stmt.{Stmt}
use Rattle.tpl_model.specs.declared.ends.Ends.{Ends}
use Rattle.tpl_model.specs.Statements.{Statement, Statements, ◌⨾◌}
use Rattle.tpl_model.specs.Seen.{statement_of, statements_of}
use Rattle.tpl_model.specs.Paths.{Known}
use Rattle.tpl_model.specs.Recursion.{gets_through, passes_by, stops, stops_at, is_throw}
use Rattle.tpl_model.specs.Ends.{is_return, is_acknowledgement, avoided, then_ends, ends_in, ends_at}
use Rattle.tpl_model.proofs.Lists.{split_at}

-- after the statements before an index, what is left gives the whole answer
pub record EndsSoFar (past : Bool) (w : Known) (body : Statements) (items : List Stmt) (index : ℕ) (so_far : Ends) : Type 0 where
  pub whole : statements_of items ≡ body
  pub left : then_ends so_far (ends_in past w (statements_of (drop index items))) ≡ ends_in past w body

-- an equation for each part
made : {a b c d x y z u : Bool} → a ≡ x → b ≡ y → c ≡ z → d ≡ u → let one : Ends = record { goes_on = a; returned = b; thrown = c; acknowledged = d } in let other : Ends = record { goes_on = x; returned = y; thrown = z; acknowledged = u } in one ≡ other
made {a} {b} {c} {d} {x} {y} {z} {u} e f g h =
    ap (λ v. let r : Ends = record { goes_on = v; returned = b; thrown = c; acknowledged = d } in r) e
    ∙ (ap (λ v. let r : Ends = record { goes_on = x; returned = v; thrown = c; acknowledged = d } in r) f
    ∙ (ap (λ v. let r : Ends = record { goes_on = x; returned = y; thrown = v; acknowledged = d } in r) g
    ∙ ap (λ v. let r : Ends = record { goes_on = x; returned = y; thrown = z; acknowledged = v } in r) h))

pub or_with : (f p g q x : Bool) → ((f || (p && g)) || ((p && q) && x)) ≡ (f || (p && (g || (q && x))))
or_with true p g q x = refl
or_with false true g q x = refl
or_with false false g q x = refl

then_ends_assoc : (a b c : Ends) → then_ends (then_ends a b) c ≡ then_ends a (then_ends b c)
then_ends_assoc a b c = made
    (and_assoc a.goes_on b.goes_on c.goes_on)
    (or_with a.returned a.goes_on b.returned b.goes_on c.returned)
    (or_with a.thrown a.goes_on b.thrown b.goes_on c.thrown)
    (or_with a.acknowledged a.goes_on b.acknowledged b.goes_on c.acknowledged)

-- what is kept and goes on, or stops
kept_or : (k s p x : Bool) → (k && (s || (p && x))) ≡ ((k && s) || ((k && p) && x))
kept_or true s p x = refl
kept_or false s p x = refl

kept_and : (k p x : Bool) → (k && (p && x)) ≡ ((k && p) && x)
kept_and true p x = refl
kept_and false p x = refl

ends_in_more : (past : Bool) (w : Known) (s : Statement) (rest : Statements) → ends_in past w (s ⨾ rest) ≡ then_ends (ends_at past w s) (ends_in past w rest)
ends_in_more past w s rest =
    let kept : Bool = not (avoided past s) in
    let passes : Bool = passes_by (avoided past) w s in
    made
    (kept_and kept passes (gets_through (avoided past) w rest))
    (kept_or kept (stops_at (avoided past) is_return w s) passes (stops (avoided past) is_return w rest))
    (kept_or kept (stops_at (avoided past) is_throw w s) passes (stops (avoided past) is_throw w rest))
    (kept_or kept (stops_at (avoided past) is_acknowledgement w s) passes (stops (avoided past) is_acknowledgement w rest))

pub start : (past : Bool) (w : Known) (body : Statements) (items : List Stmt) → statements_of items ≡ body → EndsSoFar past w body items 0 (record { goes_on = true; returned = false; thrown = false; acknowledged = false })
start past w body items e = record { whole = e; left = ap (ends_in past w) e }

pub step : (past : Bool) (w : Known) (body : Statements) (items : List Stmt) (i : ℕ) (so_far : Ends) (x : Stmt) → i < length items → x ≡ get_or items i x → EndsSoFar past w body items i so_far → EndsSoFar past w body items (i + 1) (then_ends so_far (ends_at past w (statement_of x)))
step past w body items i so_far x lt is at = record {
  whole = at.whole;
  left =
      then_ends_assoc so_far (ends_at past w (statement_of x)) (ends_in past w (statements_of (drop (i + 1) items)))
      ∙ (ap (then_ends so_far) (sym (ap (ends_in past w) (split_at items i x lt is) ∙ ends_in_more past w (statement_of x) (statements_of (drop (i + 1) items)))) ∙ at.left);
}

pub or_nothing : (f p : Bool) → (f || (p && false)) ≡ f
or_nothing true p = refl
or_nothing false true = refl
or_nothing false false = refl

nothing_more : (a : Ends) → then_ends a (record { goes_on = true; returned = false; thrown = false; acknowledged = false }) ≡ a
nothing_more a = made (and_true a.goes_on) (or_nothing a.returned a.goes_on) (or_nothing a.thrown a.goes_on) (or_nothing a.acknowledged a.goes_on)

pub finish : (past : Bool) (w : Known) (body : Statements) (items : List Stmt) (i : ℕ) (so_far : Ends) → length items ≤ i → EndsSoFar past w body items i so_far → so_far ≡ ends_in past w body
finish past w body items i so_far le at =
    sym (nothing_more so_far) ∙ (ap (λ l. then_ends so_far (ends_in past w (statements_of l))) (sym (drop_all i items le)) ∙ at.left)
