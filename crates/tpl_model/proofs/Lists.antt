-- Lists of statements in memory from an index on.
use Rattle.std.proofs.Common.{◌≡◌, ℕ, zero, suc, ◌+◌, ◌<◌, ◌≤◌, List, [], ◌∷◌, length, drop, get_or, sym, ap, arith, add-one, drop-cons}
use Rattle.tpl_model.specs.declared.body.Stmt.{Stmt}
use Rattle.tpl_model.specs.Statements.{Statements, ◌⨾◌}
use Rattle.tpl_model.specs.Seen.{statement_of, statements_of}
use Rattle.tpl_model.specs.declared.body.Body.TheDeep.{deep-Stmt}
use Rattle.tpl_model.specs.declared.body.Body.TheView.{size}
use Rattle.tpl_model.specs.Limits.{statement_count, count_one}
use Rattle.tpl_model.specs.Falls.{deep_le-count}

pub split_at : (items : List Stmt) (i : ℕ) (x : Stmt) → i < length items → x ≡ get_or items i x → statements_of (drop i items) ≡ statement_of x ⨾ statements_of (drop (i + 1) items)
split_at items i x lt is =
    let e : drop i items ≡ x ∷ drop (i + 1) items = rw (add-one, drop-cons items i x) (ap (λ y. y ∷ drop (suc i) items) (sym is)) in
    ap statements_of e

count_at : (items : List Stmt) (i : ℕ) (x : Stmt) → i < length items → x ≡ get_or items i x → count_one (statement_of x) ≤ statement_count (statements_of items)
count_at [] i x lt is = absurd (omega arith)
count_at (s ∷ rest) zero x lt is = let e : count_one (statement_of x) ≡ count_one (statement_of s) = ap (λ y. count_one (statement_of y)) is in omega arith
count_at (s ∷ rest) (suc i) x lt is = omega (arith, count_at rest i x (omega arith) is)

-- a statement of a list has no more statements than the list
pub falls_in : (body : Statements) (items : List Stmt) (i : ℕ) (x : Stmt) → statements_of items ≡ body → i < length items → x ≡ get_or items i x → count_one (statement_of x) ≤ statement_count body
falls_in body items i x e lt is = omega (arith, ap statement_count e, count_at items i x lt is)

-- a statement of a list is less deep than the list
pub deep_in : (body : Statements) (items : List Stmt) (i : ℕ) (x : Stmt) → statements_of items ≡ body → i < length items → x ≡ get_or items i x → deep-Stmt x ≤ size body
deep_in body items i x e lt is = omega (arith, deep_le-count x, falls_in body items i x e lt is)
