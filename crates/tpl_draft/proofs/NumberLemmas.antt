-- The loop over a list of statements that puts ids in place of names.
use Rattle.std.proofs.Common.{◌≡◌, ℕ, ◌+◌, ◌<◌, ◌≤◌, ◌++◌, List, [], ◌∷◌, length, drop, get_or, refl, sym, ap, ◌∙◌}
use Rattle.std.proofs.lemmas.List.{drop_all}
use Rattle.tpl_model.proofs.Levels.{followed_by-nothing}
use Rattle.tpl_model.proofs.Fronts.{ahead_assoc}
use Rattle.tpl_model.specs.Statements.{◌⨾◌, followed_by}
use Rattle.tpl_model.specs.declared.body.Stmt.{Stmt}
use Rattle.tpl_draft.specs.declared.draft.DraftStmt.{DraftStmt}
use Rattle.tpl_draft.specs.Draft.{Lines}
use Rattle.tpl_draft.specs.Named.{Names}
use Rattle.tpl_draft.specs.Numbered.{script_in, statement_in}
use Rattle.tpl_model.specs.Seen.{statement_of, statements_of}
use Rattle.tpl_draft.specs.SeenDraft.{line_of, lines_of}
use Rattle.tpl_draft.proofs.AskLemmas.{split_at}

pub statements_of-append : (xs ys : List Stmt) → statements_of (xs ++ ys) ≡ followed_by (statements_of xs) (statements_of ys)
statements_of-append [] ys = refl
statements_of-append (x ∷ xs) ys = ap (λ r. statement_of x ⨾ r) (statements_of-append xs ys)

-- the statements before an index stand with ids
pub record NumberedTo (n : Names) (body : Lines) (items : List DraftStmt) (i : ℕ) (made : List Stmt) : Type 0 where
  pub whole : lines_of items ≡ body
  pub left : followed_by (statements_of made) (script_in n (lines_of (drop i items))) ≡ script_in n body

pub none_numbered : (n : Names) (body : Lines) (items : List DraftStmt) → lines_of items ≡ body → NumberedTo n body items 0 []
none_numbered n body items e = record { whole = e; left = ap (script_in n) e }

pub one_numbered : (n : Names) (body : Lines) (items : List DraftStmt) (i : ℕ) (x : DraftStmt) (made new : List Stmt) (s : Stmt) → i < length items → x ≡ get_or items i x → NumberedTo n body items i made → statement_of s ≡ statement_in n (line_of x) → new ≡ made ++ s ∷ [] → NumberedTo n body items (i + 1) new
one_numbered n body items i x made new s lt is at s_is new_is = record {
  whole = at.whole;
  left =
      ap (λ l. followed_by (statements_of l) (script_in n (lines_of (drop (i + 1) items)))) new_is
      ∙ (ap (λ a. followed_by a (script_in n (lines_of (drop (i + 1) items)))) (statements_of-append made (s ∷ []))
      ∙ (ahead_assoc (statements_of made) (statements_of (s ∷ [])) (script_in n (lines_of (drop (i + 1) items)))
      ∙ (ap (λ y. followed_by (statements_of made) (y ⨾ script_in n (lines_of (drop (i + 1) items)))) s_is
      ∙ (ap (λ b. followed_by (statements_of made) (script_in n b)) (sym (split_at items i x lt is))
      ∙ at.left))));
}

pub all_numbered : (n : Names) (body : Lines) (items : List DraftStmt) (i : ℕ) (made : List Stmt) → length items ≤ i → NumberedTo n body items i made → statements_of made ≡ script_in n body
all_numbered n body items i made le at =
    sym (followed_by-nothing (statements_of made))
    ∙ (ap (λ l. followed_by (statements_of made) (script_in n (lines_of l))) (sym (drop_all i items le)) ∙ at.left)
