-- Lists of statements that are equal up to an index.
use Rattle.std.proofs.Common.{◌≡◌, ℕ, suc, List, [], ◌∷◌, length, drop, refl, sym, ap, ◌∙◌}
use Rattle.tpl_model.specs.declared.body.Stmt.{Stmt}
use Rattle.tpl_model.specs.Statements.{Statements, ◌⨾◌, Nothing}
use Rattle.tpl_model.specs.Seen.{statements_of}

-- the lists are equal exactly where they are from the index on
pub record SameSoFar (left right : List Stmt) (i : ℕ) : Type 0 where
  pub long : length left ≡ length right
  pub to : statements_of (drop i left) ≡ statements_of (drop i right) → statements_of left ≡ statements_of right
  pub of : statements_of left ≡ statements_of right → statements_of (drop i left) ≡ statements_of (drop i right)

list_length : Statements → ℕ
list_length Nothing = 0
list_length (s ⨾ rest) = suc (list_length rest)

length_of : (list : List Stmt) → list_length (statements_of list) ≡ length list
unfolding list_length
length_of [] = refl
length_of (s ∷ rest) = ap suc (length_of rest)

-- equal lists are equally long
pub same_length : (left right : List Stmt) (a b : Statements) → a ≡ statements_of left → b ≡ statements_of right → a ≡ b → length left ≡ length right
same_length left right a b l r e = sym (length_of left) ∙ (ap list_length (sym l ∙ (e ∙ r)) ∙ length_of right)
