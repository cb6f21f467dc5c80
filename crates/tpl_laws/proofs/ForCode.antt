-- A step of code that walks over rows and counts up.
use Rattle.std.proofs.Common.{◌≡◌, ℕ, suc, ◌+◌, ◌-◌, ◌<◌, List, ap, ◌∙◌, arith}
use Rattle.tpl_model.specs.Graph.{TaskGraph}
use Rattle.tpl_model.specs.Certificate.{PlainRow, Assumed}
use Rattle.tpl_laws.specs.Verdict.{or_else, broken, breaks, first_broken}

-- at row i of n
pub first_broken_step : (g : TaskGraph) (l : Assumed) (rows : List PlainRow) (i n : ℕ) → i < n → first_broken g l rows i (n - i) ≡ or_else (breaks i (broken g l rows i)) (first_broken g l rows (i + 1) (n - (i + 1)))
first_broken_step g l rows i n lt =
    let left : n - i ≡ suc (n - (i + 1)) = omega arith in
    let next : suc i ≡ i + 1 = omega arith in
    ap (λ z. first_broken g l rows i z) left ∙ ap (λ z. or_else (breaks i (broken g l rows i)) (first_broken g l rows z (n - (i + 1)))) next
