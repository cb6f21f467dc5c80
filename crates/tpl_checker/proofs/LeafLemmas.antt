-- The first row that breaks a rule, task by task.
use Rattle.std.proofs.Common.{◌≡◌, ℕ, suc, ◌+◌, ◌-◌, ◌<◌, ◌≤◌, Option, Some, None, List, refl, sym, ap, ◌∙◌, arith}
use Rattle.tpl_model.specs.Graph.{TaskGraph}
use Rattle.tpl_model.specs.Certificate.{PlainRow, Assumed}
use Rattle.tpl_model.specs.declared.fault.Rule.{Rule}
use Rattle.tpl_laws.specs.Verdict.{LeafFault, Breaks, or_else, broken, breaks, first_broken}

-- the first of n tasks from i on that breaks a rule, by the rule that each breaks
pub record FindsBroken (rule_of : ℕ → Option Rule) (first : ℕ → ℕ → Option LeafFault) : Type 0 where
  pub none : (i : ℕ) → first i 0 ≡ None
  pub next : (i n : ℕ) → first i (suc n) ≡ or_else (breaks i (rule_of i)) (first (suc i) n)

pub finds_broken : (g : TaskGraph) (l : Assumed) (rows : List PlainRow) → FindsBroken (broken g l rows) (first_broken g l rows)
finds_broken g l rows = record { none = λ i. refl; next = λ i n. refl }

-- the rows of the first i of n tasks break no rule
pub record NoneBroken (first : ℕ → ℕ → Option LeafFault) (n i : ℕ) : Type 0 where
  pub same : first 0 n ≡ first i (n - i)

pub none_broken : (first : ℕ → ℕ → Option LeafFault) (n : ℕ) → NoneBroken first n 0
none_broken first n = let all : n ≡ n - 0 = omega arith in record { same = ap (first 0) all }

module _ {rule_of : ℕ → Option Rule} {first : ℕ → ℕ → Option LeafFault} {n i : ℕ} (law : FindsBroken rule_of first) (s : NoneBroken first n i) where
  at_task : i < n → (o : Option Rule) → o ≡ rule_of i → first 0 n ≡ or_else (breaks i o) (first (i + 1) (n - (i + 1)))
  at_task lt o e =
      let left : n - i ≡ suc (n - (i + 1)) = omega arith in
      let up : suc i ≡ i + 1 = omega arith in
      s.same ∙ (ap (first i) left ∙ (law.next i (n - (i + 1)) ∙ (λ j. or_else (breaks i (sym e j)) (first (up j) (n - (i + 1))))))

  pub next_unbroken : i < n → None ≡ rule_of i → NoneBroken first n (i + 1)
  next_unbroken lt e = record { same = at_task lt None e }

  pub here_broken : i < n → (rule : Rule) → Some rule ≡ rule_of i → Some (Breaks i rule) ≡ first 0 n
  here_broken lt rule e = sym (at_task lt (Some rule) e)

  pub all_unbroken : n ≤ i → None ≡ first 0 n
  all_unbroken le = let none : n - i ≡ 0 = omega arith in sym (s.same ∙ (ap (first i) none ∙ law.none i))
