-- Rows after steps for some of the tasks.
use Rattle.std.proofs.Common.{◌≡◌, ℕ, zero, suc, ◌+◌, ◌-◌, ◌<◌, Bool, true, false, if◌then◌else◌, List, refl, sym, ap, ◌∙◌, arith}
use Rattle.tpl_model.specs.Graph.{TaskGraph}
use Rattle.tpl_model.specs.Certificate.{Row}
use Rattle.tpl_laws.specs.LeastRows.{downwards, upwards}
use Rattle.tpl_token_check.specs.declared.rows.Rows.{Rows}
use Rattle.tpl_token_check.specs.Rows.{AreRows}

module _ (test : ℕ → Bool) (step : ℕ → List Row → List Row) where
  -- one task more, upwards
  up : (b : Bool) (n : ℕ) (rows : List Row) → test n ≡ b → (if b then step n (upwards test step n rows) else upwards test step n rows) ≡ upwards test step (n + 1) rows
  up b n rows e =
      let next : suc n ≡ n + 1 = omega arith in
      ap (λ c. if c then step n (upwards test step n rows) else upwards test step n rows) (sym e) ∙ ap (λ k. upwards test step k rows) next

  pub up_with : {g : TaskGraph} {r new : Rows} (n : ℕ) (rows : List Row) → AreRows g (upwards test step n rows) r → test n ≡ true → AreRows g (step n r.rows.items) new → AreRows g (upwards test step (n + 1) rows) new
  up_with n rows a e b = record { same = b.same ∙ (ap (step n) a.same ∙ up true n rows e); kept = b.kept }

  pub up_without : {g : TaskGraph} {r : Rows} (n : ℕ) (rows : List Row) → AreRows g (upwards test step n rows) r → test n ≡ false → AreRows g (upwards test step (n + 1) rows) r
  up_without n rows a e = record { same = a.same ∙ up false n rows e; kept = a.kept }

  -- one task less, downwards
  down : (b : Bool) (n : ℕ) (rows : List Row) → 0 < n → test (n - 1) ≡ b → downwards test step (n - 1) (if b then step (n - 1) rows else rows) ≡ downwards test step n rows
  down b n rows some e =
      let next : suc (n - 1) ≡ n = omega arith in
      ap (λ c. downwards test step (n - 1) (if c then step (n - 1) rows else rows)) (sym e) ∙ ap (λ k. downwards test step k rows) next

  pub down_with : (n : ℕ) (rows new : List Row) → 0 < n → test (n - 1) ≡ true → new ≡ step (n - 1) rows → downwards test step (n - 1) new ≡ downwards test step n rows
  down_with n rows new some e is = ap (downwards test step (n - 1)) is ∙ down true n rows some e

  pub down_without : (n : ℕ) (rows : List Row) → 0 < n → test (n - 1) ≡ false → downwards test step (n - 1) rows ≡ downwards test step n rows
  down_without n rows some e = down false n rows some e

  -- where none passes the test
  pub none_up : ((x : ℕ) → test x ≡ false) → (n : ℕ) (rows : List Row) → upwards test step n rows ≡ rows
  none_up none zero rows = refl
  none_up none (suc n) rows = ap (λ b. if b then step n (upwards test step n rows) else upwards test step n rows) (none n) ∙ none_up none n rows

  pub none_down : ((x : ℕ) → test x ≡ false) → (n : ℕ) (rows : List Row) → downwards test step n rows ≡ rows
  none_down none zero rows = refl
  none_down none (suc n) rows = ap (λ b. downwards test step n (if b then step n rows else rows)) (none n) ∙ none_down none n rows
