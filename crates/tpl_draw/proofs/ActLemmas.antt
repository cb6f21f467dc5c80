-- What a body does, statement by statement.
use Rattle.std.proofs.Common.{◌≡◌, ℕ, ◌+◌, ◌<◌, ◌≤◌, List, ◌++◌, length, drop, get_or, sym, ap, ◌∙◌, append_assoc, append-nil}
use Rattle.std.proofs.lemmas.List.{drop_all}
use Rattle.tpl_model.specs.declared.body.Stmt.{Stmt}
use Rattle.tpl_model.specs.Statements.{Statements}
use Rattle.tpl_model.specs.Seen.{statement_of, statements_of}
use Rattle.tpl_model.proofs.Lists.{split_at}
use Rattle.tpl_draw.specs.declared.edge.Edge.{Edge}
use Rattle.tpl_draw.specs.Edges.{acts, acts_of}

-- the edges so far and those of the statements that are left are those of the body
pub record ActsSoFar (t : ℕ) (body : Statements) (items : List Stmt) (index : ℕ) (old now : List Edge) : Type 0 where
  pub whole : statements_of items ≡ body
  pub left : now ++ acts t (statements_of (drop index items)) ≡ old ++ acts t body

pub acts_start : (t : ℕ) (body : Statements) (items : List Stmt) (old : List Edge) → statements_of items ≡ body → ActsSoFar t body items 0 old old
acts_start t body items old e = record { whole = e; left = ap (λ b. old ++ acts t b) e }

pub acts_step : (t : ℕ) (body : Statements) (items : List Stmt) (i : ℕ) (old now new : List Edge) (x : Stmt) → i < length items → x ≡ get_or items i x → ActsSoFar t body items i old now → new ≡ now ++ acts_of t (statement_of x) → ActsSoFar t body items (i + 1) old new
acts_step t body items i old now new x lt is at e = record {
  whole = at.whole;
  left =
      ap (λ z. z ++ acts t (statements_of (drop (i + 1) items))) e
      ∙ (append_assoc now (acts_of t (statement_of x)) (acts t (statements_of (drop (i + 1) items)))
      ∙ (ap (λ b. now ++ acts t b) (sym (split_at items i x lt is)) ∙ at.left));
}

pub acts_end : (t : ℕ) (body : Statements) (items : List Stmt) (i : ℕ) (old now : List Edge) → length items ≤ i → ActsSoFar t body items i old now → now ≡ old ++ acts t body
acts_end t body items i old now le at =
    sym (append-nil now) ∙ (ap (λ l. now ++ acts t (statements_of l)) (sym (drop_all i items le)) ∙ at.left)
