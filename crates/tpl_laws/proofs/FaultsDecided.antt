-- No row breaks a rule just where each keeps them all, and the numbers in rows fit just where they are the graph's.
use Rattle.std.proofs.Common.{◌≡◌, ℕ, zero, suc, ◌+◌, ◌<◌, ◌≤◌, inl, inr, ◌&&◌, Bool, true, false, Option, Some, None, List, [], ◌∷◌, refl, sym, subst, arith, length, nat_lt}
use Rattle.std.specs.Prelude.{Decides}
use Rattle.std.proofs.lemmas.Bool.{cases_lt, ltb-true, lt-ltb}
use Rattle.tpl_model.proofs.Truths.{true_false}
use Rattle.tpl_model.specs.Graph.{TaskGraph, is_task}
use Rattle.tpl_model.specs.Valid.{IsGraph}
use Rattle.tpl_model.specs.Certificate.{PlainRow, Assumed, IsClosed, AllTasks, IdsOfRows}
use Rattle.tpl_laws.specs.RowTests.{runs, ends, before, past, chain}
use Rattle.tpl_model.specs.declared.fault.Rule.{Rule}
use Rattle.tpl_model.specs.declared.fault.Rule.TheVariants.{K1, K2, K3, K6}
use Rattle.tpl_laws.specs.Verdict.{or_else, unless, broken, LeafFault, breaks, has_tasks, rows_fit}
use Rattle.tpl_laws.proofs.Deciding.{both}
use Rattle.tpl_laws.proofs.RulesDecided.{runs_lem, ends_lem, before_lem, past_lem, chain_lem}
use Rattle.tpl_laws.specs.PathLaws.{PathLaws}
use Rattle.tpl_laws.specs.FirstFault.{RowRules}
use Rattle.tpl_laws.specs.Faults.{row_rules}
use Rattle.tpl_laws.proofs.Basics.{some_none}

-- there is none just where the statement is
abbrev pub Clears : {A : Type 0} → Option A → Type 0 → Type 0
Clears o P = (o ≡ None → P) × (P → o ≡ None)

pub clear : {A : Type 0} → Clears {A = A} None (Unit {0})
clear {A = A} = (λ e. tt, λ u. refl)

pub clear_unless : {A : Type 0} (P Q : Type 0) (b : Bool) (x : A) (o : Option A) → Decides b P → Clears o Q → Clears (unless b x o) (P × Q)
clear_unless P Q true x o d c = (λ e. (d.0 refl, c.0 e), λ e. c.1 e.1)
clear_unless P Q false x o d c = (λ e. absurd (cc), λ e. true_false (sym (d.1 e.0)))

pub clear_or_else : {A : Type 0} (P Q : Type 0) (a b : Option A) → Clears a P → Clears b Q → Clears (or_else a b) (P × Q)
clear_or_else P Q None b c d = (λ e. (c.0 refl, d.0 e), λ e. d.1 e.1)
clear_or_else P Q (Some x) b c d = (λ e. absurd (cc), λ e. c.1 e.0)

pub clear_means : {A : Type 0} (P Q : Type 0) (o : Option A) → Clears o P → (P → Q) → (Q → P) → Clears o Q
clear_means P Q o c to back = (λ e. to (c.0 e), λ q. c.1 (back q))

pub no_unless : {A : Type 0} (b : Bool) (x : A) (o : Option A) → unless b x o ≡ None → (b ≡ true) × (o ≡ None)
no_unless true x o e = (refl, e)
no_unless false x o e = absurd (cc)

-- the rules of a row, one after another
pub rules_clear : (r : RowRules) (a b c d e : Bool) → Decides a r.runs → Decides b r.ends → Decides c r.before → Decides d r.past → Decides e r.chain
    → Clears (unless a K1 (unless b K2 (unless c K3 (unless d r.past_rule (unless e K6 None))))) (r.runs × (r.ends × (r.before × (r.past × (r.chain × Unit {0})))))
rules_clear r a b c d e runs ends before past chain =
    let last = unless e K6 None in
    let from_past = unless d r.past_rule last in
    let from_before = unless c K3 from_past in
    clear_unless r.runs (r.ends × (r.before × (r.past × (r.chain × Unit {0})))) a K1 (unless b K2 from_before) runs
    (clear_unless r.ends (r.before × (r.past × (r.chain × Unit {0}))) b K2 from_before ends
    (clear_unless r.before (r.past × (r.chain × Unit {0})) c K3 from_past before
    (clear_unless r.past (r.chain × Unit {0}) d r.past_rule last past
    (clear_unless r.chain (Unit {0}) e K6 None chain clear))))

pub broken_lem : PathLaws → (g : TaskGraph) (l : Assumed) (rows : List PlainRow) (t : ℕ) → IsGraph g → Clears (broken g l rows t) (IsClosed g l rows t)
broken_lem paths g l rows t valid =
    let r = row_rules g l rows t in
    clear_means (r.runs × (r.ends × (r.before × (r.past × (r.chain × Unit {0}))))) (IsClosed g l rows t) (broken g l rows t)
    (rules_clear r (runs g l rows t) (ends g l rows t) (before g rows t) (past g l rows t) (chain g l rows t)
    (runs_lem paths g l rows t valid) (ends_lem paths g l rows t) (before_lem paths g rows t valid) (past_lem paths g l rows t valid) (chain_lem paths g l rows t))
    (λ e. record { runs = e.0; ends = e.1.0; before = e.1.1.0; past = e.1.1.1.0; chain = e.1.1.1.1.0 })
    (λ c. (c.runs, (c.ends, (c.before, (c.past, (c.chain, tt))))))

-- the rows of a leaf
clear_breaks : (t : ℕ) (P : Type 0) (o : Option Rule) → Clears o P → Clears (breaks t o) P
clear_breaks t P None c = (λ e. c.0 refl, λ p. refl)
clear_breaks t P (Some rule) c = (λ e. absurd (cc), λ p. some_none rule (c.1 p))

module _ (IsClosed : ℕ → Type 0) (broken : ℕ → Option Rule) (first : ℕ → ℕ → Option LeafFault) (closed : (t : ℕ) → Clears (broken t) (IsClosed t))
    (of_none : (t : ℕ) → first t zero ≡ None) (of_more : (t n : ℕ) → first t (suc n) ≡ or_else (breaks t (broken t)) (first (suc t) n)) where
  closed_from : (t n : ℕ) → Clears (first t n) ((x : ℕ) → t ≤ x → x < t + n → IsClosed x)
  closed_from t zero = (λ e x a b. absurd (omega arith), λ f. of_none t)
  closed_from t (suc n) =
      let Later = (x : ℕ) → suc t ≤ x → x < suc t + n → IsClosed x in
      subst (λ z. Clears z ((x : ℕ) → t ≤ x → x < t + suc n → IsClosed x)) (sym (of_more t n))
      (clear_means (IsClosed t × Later) ((x : ℕ) → t ≤ x → x < t + suc n → IsClosed x) (or_else (breaks t (broken t)) (first (suc t) n))
      (clear_or_else (IsClosed t) Later (breaks t (broken t)) (first (suc t) n) (clear_breaks t (IsClosed t) (broken t) (closed t)) (closed_from (suc t) n))
      (λ e x a b. elim (cases_lt t x) [ inl lt ↦ e.1 x (omega arith) (omega arith) | inr ge ↦ let q : t ≡ x = omega arith in subst IsClosed q e.0 ])
      (λ f. (f t (omega arith) (omega arith), λ x a b. f x (omega arith) (omega arith))))

  pub all_closed : (n : ℕ) → Clears (first 0 n) ((t : ℕ) → t < n → IsClosed t)
  all_closed n =
      clear_means ((x : ℕ) → 0 ≤ x → x < 0 + n → IsClosed x) ((t : ℕ) → t < n → IsClosed t) (first 0 n) (closed_from 0 n)
      (λ f x a. f x (omega arith) (omega arith))
      (λ f x a b. f x (omega arith))

-- shapes
pub below_decided : (x n : ℕ) → Decides (nat_lt x n) (x < n)
below_decided x n = (ltb-true x n, lt-ltb x n)

tasks_decided : (g : TaskGraph) (xs : List ℕ) → Decides (has_tasks g xs) (AllTasks g xs)
tasks_decided g [] = (λ e. tt, λ u. refl)
tasks_decided g (x ∷ xs) = both (is_task g x) (AllTasks g xs) (nat_lt x (length g.tasks)) (has_tasks g xs) (below_decided x (length g.tasks)) (tasks_decided g xs)

row_decided : (g : TaskGraph) (r : PlainRow) (rows : List PlainRow) → Decides (rows_fit g rows) (IdsOfRows g rows) → Decides (rows_fit g (r ∷ rows)) ((AllTasks g r.before × (AllTasks g r.past × AllTasks g r.chain)) × IdsOfRows g rows)
row_decided g r rows d =
    both (AllTasks g r.before × (AllTasks g r.past × AllTasks g r.chain)) (IdsOfRows g rows) (has_tasks g r.before && (has_tasks g r.past && has_tasks g r.chain)) (rows_fit g rows)
    (both (AllTasks g r.before) (AllTasks g r.past × AllTasks g r.chain) (has_tasks g r.before) (has_tasks g r.past && has_tasks g r.chain) (tasks_decided g r.before)
    (both (AllTasks g r.past) (AllTasks g r.chain) (has_tasks g r.past) (has_tasks g r.chain) (tasks_decided g r.past) (tasks_decided g r.chain)))
    d

pub rows_decided : (g : TaskGraph) (rows : List PlainRow) → Decides (rows_fit g rows) (IdsOfRows g rows)
rows_decided g [] = (λ e. tt, λ u. refl)
rows_decided g (r ∷ rows) = (
  λ e. let q = (row_decided g r rows (rows_decided g rows)).0 e in (q.0.0, q.0.1.0, q.0.1.1, q.1),
  λ e. (row_decided g r rows (rows_decided g rows)).1 ((e.0, (e.1, e.2)), e.3),
)
