-- A list of statements with names as a tree of numbers, from which it can be read again.
use Rattle.std.specs.Prelude.{◌≡◌, ℕ, zero, suc, Bool, true, false, List, [], ◌∷◌, refl}
use Rattle.std.proofs.Common.{sym, ap, ◌∙◌}
use base.Stored.{Coded, Gv, gnil, gnum, gcons}
use Rattle.tpl_model.specs.declared.finals.Final.{Final}
use Rattle.tpl_model.specs.declared.finals.Final.TheVariants.{RanToCompletion, Canceled, Faulted}
use Rattle.tpl_model.specs.Coding.{flag, flagged, final_number, final_at}
use Rattle.tpl_draft.specs.Draft.{Line, Lines}
use Rattle.tpl_draft.specs.Draft as line

flagged-flag : (b : Bool) → flagged (flag b) ≡ b
flagged-flag false = refl
flagged-flag true = refl

final_at-number : (f : Final) → final_at (final_number f) ≡ f
final_at-number RanToCompletion = refl
final_at-number Canceled = refl
final_at-number Faulted = refl

abbrev pub text_tree : List ℕ → Gv
text_tree [] = gnil
text_tree (n ∷ ns) = gcons (gnum n) (text_tree ns)

abbrev pub read_text : Gv → List ℕ
read_text (gcons (gnum n) rest) = n ∷ read_text rest
read_text _ = []

read_text-tree : (t : List ℕ) → read_text (text_tree t) ≡ t
read_text-tree [] = refl
read_text-tree (n ∷ ns) = ap (λ r. n ∷ r) (read_text-tree ns)

abbrev mutual
  pub lines_tree : Lines → Gv
  lines_tree line.Nothing = gnil
  lines_tree (line.Then s rest) = gcons (line_tree s) (lines_tree rest)

  pub line_tree : Line → Gv
  line_tree line.Return = gnum 0
  line_tree line.Observe = gnum 1
  line_tree (line.Throw l) = gcons (gnum 0) (text_tree l)
  line_tree (line.Check k) = gcons (gnum 1) (text_tree k)
  line_tree (line.Cancel k) = gcons (gnum 2) (text_tree k)
  line_tree (line.Start c) = gcons (gnum 3) (text_tree c)
  line_tree (line.Work s b) = gcons (gnum 4) (gcons (text_tree s) (gnum (flag b)))
  line_tree (line.If i a b) = gcons (gnum 5) (gcons (text_tree i) (gcons (lines_tree a) (lines_tree b)))
  line_tree (line.When f a b) = gcons (gnum 6) (gcons (gnum (final_number f)) (gcons (lines_tree a) (lines_tree b)))

abbrev mutual
  pub read_lines : Gv → Lines
  read_lines gnil = line.Nothing
  read_lines (gnum n) = line.Nothing
  read_lines (gcons a b) = line.Then (read_line a) (read_lines b)

  pub read_line : Gv → Line
  read_line (gnum zero) = line.Return
  read_line (gnum (suc n)) = line.Observe
  read_line (gcons (gnum zero) t) = line.Throw (read_text t)
  read_line (gcons (gnum (suc zero)) t) = line.Check (read_text t)
  read_line (gcons (gnum (suc (suc zero))) t) = line.Cancel (read_text t)
  read_line (gcons (gnum (suc (suc (suc zero)))) t) = line.Start (read_text t)
  read_line (gcons (gnum (suc (suc (suc (suc zero))))) (gcons s (gnum b))) = line.Work (read_text s) (flagged b)
  read_line (gcons (gnum (suc (suc (suc (suc (suc zero)))))) (gcons i (gcons a b))) = line.If (read_text i) (read_lines a) (read_lines b)
  read_line (gcons (gnum (suc (suc (suc (suc (suc (suc zero))))))) (gcons (gnum f) (gcons a b))) = line.When (final_at f) (read_lines a) (read_lines b)
  read_line _ = line.Return

mutual
  pub read_lines-tree : (b : Lines) → read_lines (lines_tree b) ≡ b
  read_lines-tree line.Nothing = refl
  read_lines-tree (line.Then s rest) =
      ap (λ x. line.Then x (read_lines (lines_tree rest))) (read_line-tree s)
      ∙ ap (line.Then s) (read_lines-tree rest)

  read_line-tree : (s : Line) → read_line (line_tree s) ≡ s
  read_line-tree line.Return = refl
  read_line-tree line.Observe = refl
  read_line-tree (line.Throw l) = ap line.Throw (read_text-tree l)
  read_line-tree (line.Check k) = ap line.Check (read_text-tree k)
  read_line-tree (line.Cancel k) = ap line.Cancel (read_text-tree k)
  read_line-tree (line.Start c) = ap line.Start (read_text-tree c)
  read_line-tree (line.Work s b) =
      ap (λ x. line.Work x (flagged (flag b))) (read_text-tree s) ∙ ap (line.Work s) (flagged-flag b)
  read_line-tree (line.If i a b) =
      ap (λ x. line.If x (read_lines (lines_tree a)) (read_lines (lines_tree b))) (read_text-tree i)
      ∙ (ap (λ x. line.If i x (read_lines (lines_tree b))) (read_lines-tree a)
      ∙ ap (line.If i a) (read_lines-tree b))
  read_line-tree (line.When f a b) =
      ap (λ x. line.When x (read_lines (lines_tree a)) (read_lines (lines_tree b))) (final_at-number f)
      ∙ (ap (λ x. line.When f x (read_lines (lines_tree b))) (read_lines-tree a)
      ∙ ap (line.When f a) (read_lines-tree b))

abbrev pub lines_code : Coded Lines
lines_code = record {
  code = lines_tree;
  inj = λ x y e. sym (read_lines-tree x) ∙ ap read_lines e ∙ read_lines-tree y;
}
