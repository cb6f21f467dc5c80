-- The loop over a list of statements that tests each.
use Rattle.std.proofs.Common.{◌≡◌, ℕ, zero, suc, ◌+◌, ◌<◌, ◌≤◌, Bool, true, false, ◌||◌, List, [], ◌∷◌, length, drop, get_or, sym, ap, ◌∙◌, arith, add-one, drop-cons}
use Rattle.std.proofs.lemmas.List.{drop_all}
use Rattle.std.proofs.lemmas.List.Folds.{list_any-append}
use Rattle.std.specs.List.{list_any}
use Rattle.tpl_draft.specs.declared.draft.DraftStmt.{DraftStmt}
use Rattle.tpl_draft.specs.declared.draft.DraftBody.TheDeep.{deep-DraftStmt}
use Rattle.tpl_draft.specs.declared.draft.DraftBody.TheView.{size}
use Rattle.tpl_draft.specs.FallsDraft.{deep_le-count}
use Rattle.tpl_draft.specs.Draft.{Line, Lines, Then, line_count, count_line, each_of, each_within}
use Rattle.tpl_draft.specs.SeenDraft.{line_of, lines_of}

pub split_at : (items : List DraftStmt) (i : ℕ) (x : DraftStmt) → i < length items → x ≡ get_or items i x → lines_of (drop i items) ≡ Then (line_of x) (lines_of (drop (i + 1) items))
split_at items i x lt is =
    let e : drop i items ≡ x ∷ drop (i + 1) items = rw (add-one, drop-cons items i x) (ap (λ y. y ∷ drop (suc i) items) (sym is)) in
    ap lines_of e

pub count_at : (items : List DraftStmt) (i : ℕ) (x : DraftStmt) → i < length items → x ≡ get_or items i x → count_line (line_of x) ≤ line_count (lines_of items)
count_at [] i x lt is = absurd (omega arith)
count_at (s ∷ rest) zero x lt is = omega (arith, ap (λ y. count_line (line_of y)) is)
count_at (s ∷ rest) (suc i) x lt is = omega (arith, count_at rest i x (omega arith) is)

-- a statement of a list is less deep than the list
pub deep_in : (body : Lines) (items : List DraftStmt) (i : ℕ) (x : DraftStmt) → lines_of items ≡ body → i < length items → x ≡ get_or items i x → deep-DraftStmt x ≤ size body
deep_in body items i x e lt is = omega (arith, deep_le-count x, ap line_count e, count_at items i x lt is)

-- no statement before an index passes the test
pub record NoneSoFar (p : Line → Bool) (body : Lines) (items : List DraftStmt) (i : ℕ) : Type 0 where
  pub whole : lines_of items ≡ body
  pub left : list_any p (each_of (lines_of (drop i items))) ≡ list_any p (each_of body)

pub none_yet : (p : Line → Bool) (body : Lines) (items : List DraftStmt) → lines_of items ≡ body → NoneSoFar p body items 0
none_yet p body items e = record { whole = e; left = ap (λ b. list_any p (each_of b)) e }

left_with : (p : Line → Bool) (body : Lines) (items : List DraftStmt) (i : ℕ) (x : DraftStmt) → i < length items → x ≡ get_or items i x → NoneSoFar p body items i → (list_any p (line_of x ∷ each_within (line_of x)) || list_any p (each_of (lines_of (drop (i + 1) items)))) ≡ list_any p (each_of body)
left_with p body items i x lt is at =
    sym (list_any-append p (line_of x ∷ each_within (line_of x)) (each_of (lines_of (drop (i + 1) items))))
    ∙ (ap (λ b. list_any p (each_of b)) (sym (split_at items i x lt is))
    ∙ at.left)

pub none_more : (p : Line → Bool) (body : Lines) (items : List DraftStmt) (i : ℕ) (x : DraftStmt) → i < length items → x ≡ get_or items i x → NoneSoFar p body items i → list_any p (line_of x ∷ each_within (line_of x)) ≡ false → NoneSoFar p body items (i + 1)
none_more p body items i x lt is at no_x = record {
  whole = at.whole;
  left =
      ap (λ b. b || list_any p (each_of (lines_of (drop (i + 1) items)))) (sym no_x)
      ∙ left_with p body items i x lt is at;
}

pub one_is : (p : Line → Bool) (body : Lines) (items : List DraftStmt) (i : ℕ) (x : DraftStmt) → i < length items → x ≡ get_or items i x → NoneSoFar p body items i → list_any p (line_of x ∷ each_within (line_of x)) ≡ true → true ≡ list_any p (each_of body)
one_is p body items i x lt is at x_is =
    ap (λ b. b || list_any p (each_of (lines_of (drop (i + 1) items)))) (sym x_is)
    ∙ left_with p body items i x lt is at

pub none_at_all : (p : Line → Bool) (body : Lines) (items : List DraftStmt) (i : ℕ) → length items ≤ i → NoneSoFar p body items i → false ≡ list_any p (each_of body)
none_at_all p body items i le at = ap (λ l. list_any p (each_of (lines_of l))) (sym (drop_all i items le)) ∙ at.left
