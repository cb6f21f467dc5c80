-- A list of statements as a tree of numbers, from which it can be read again.
use Rattle.std.specs.Prelude.{◌≡◌, ℕ, zero, suc, Bool, true, false, refl}
use Rattle.std.proofs.Common.{sym, ap, ◌∙◌}
use base.Stored.{Coded, Gv, gnil, gnum, gcons}
use Rattle.tpl_model.specs.declared.finals.Final.{Final}
use Rattle.tpl_model.specs.declared.finals.Final.TheVariants.{RanToCompletion, Canceled, Faulted}
use Rattle.tpl_model.specs.Statements.{Statement, Statements, Return, Throw, Check, Cancel, Start, Observe, Work, If, When, Nothing, ◌⨾◌}

abbrev pub flag : Bool → ℕ
flag false = 0
flag true = 1

abbrev pub flagged : ℕ → Bool
flagged zero = false
flagged (suc n) = true

flagged-flag : (b : Bool) → flagged (flag b) ≡ b
flagged-flag false = refl
flagged-flag true = refl

abbrev pub final_number : Final → ℕ
final_number RanToCompletion = 0
final_number Canceled = 1
final_number Faulted = 2

abbrev pub final_at : ℕ → Final
final_at zero = RanToCompletion
final_at (suc zero) = Canceled
final_at (suc (suc n)) = Faulted

pub final_at-number : (f : Final) → final_at (final_number f) ≡ f
final_at-number RanToCompletion = refl
final_at-number Canceled = refl
final_at-number Faulted = refl

abbrev mutual
  pub statements_tree : Statements → Gv
  statements_tree Nothing = gnil
  statements_tree (s ⨾ rest) = gcons (statement_tree s) (statements_tree rest)

  pub statement_tree : Statement → Gv
  statement_tree Return = gnum 0
  statement_tree Observe = gnum 1
  statement_tree (Throw l) = gcons (gnum 0) (gnum l)
  statement_tree (Check k) = gcons (gnum 1) (gnum k)
  statement_tree (Cancel k) = gcons (gnum 2) (gnum k)
  statement_tree (Start c) = gcons (gnum 3) (gnum c)
  statement_tree (Work s b) = gcons (gnum 4) (gcons (gnum s) (gnum (flag b)))
  statement_tree (If i a b) = gcons (gnum 5) (gcons (gnum i) (gcons (statements_tree a) (statements_tree b)))
  statement_tree (When f a b) = gcons (gnum 6) (gcons (gnum (final_number f)) (gcons (statements_tree a) (statements_tree b)))

abbrev mutual
  pub read_statements : Gv → Statements
  read_statements gnil = Nothing
  read_statements (gnum n) = Nothing
  read_statements (gcons a b) = read_statement a ⨾ read_statements b

  pub read_statement : Gv → Statement
  read_statement (gnum zero) = Return
  read_statement (gnum (suc n)) = Observe
  read_statement (gcons (gnum zero) (gnum n)) = Throw n
  read_statement (gcons (gnum (suc zero)) (gnum n)) = Check n
  read_statement (gcons (gnum (suc (suc zero))) (gnum n)) = Cancel n
  read_statement (gcons (gnum (suc (suc (suc zero)))) (gnum n)) = Start n
  read_statement (gcons (gnum (suc (suc (suc (suc zero))))) (gcons (gnum s) (gnum b))) = Work s (flagged b)
  read_statement (gcons (gnum (suc (suc (suc (suc (suc zero)))))) (gcons (gnum i) (gcons a b))) = If i (read_statements a) (read_statements b)
  read_statement (gcons (gnum (suc (suc (suc (suc (suc (suc zero))))))) (gcons (gnum f) (gcons a b))) = When (final_at f) (read_statements a) (read_statements b)
  read_statement _ = Return

mutual
  pub read_statements-tree : (b : Statements) → read_statements (statements_tree b) ≡ b
  read_statements-tree Nothing = refl
  read_statements-tree (s ⨾ rest) =
      ap (λ x. x ⨾ read_statements (statements_tree rest)) (read_statement-tree s)
      ∙ ap (λ x. s ⨾ x) (read_statements-tree rest)

  read_statement-tree : (s : Statement) → read_statement (statement_tree s) ≡ s
  read_statement-tree Return = refl
  read_statement-tree Observe = refl
  read_statement-tree (Throw l) = refl
  read_statement-tree (Check k) = refl
  read_statement-tree (Cancel k) = refl
  read_statement-tree (Start c) = refl
  read_statement-tree (Work s b) = ap (Work s) (flagged-flag b)
  read_statement-tree (If i a b) =
      ap (λ x. If i x (read_statements (statements_tree b))) (read_statements-tree a)
      ∙ ap (If i a) (read_statements-tree b)
  read_statement-tree (When f a b) =
      ap (λ x. When x (read_statements (statements_tree a)) (read_statements (statements_tree b))) (final_at-number f)
      ∙ (ap (λ x. When f x (read_statements (statements_tree b))) (read_statements-tree a)
      ∙ ap (When f a) (read_statements-tree b))

abbrev pub statements_code : Coded Statements
statements_code = record {
  code = statements_tree;
  inj = λ x y e. sym (read_statements-tree x) ∙ ap read_statements e ∙ read_statements-tree y;
}
