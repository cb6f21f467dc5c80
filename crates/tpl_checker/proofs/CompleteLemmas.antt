-- Tasks that have to end and can't.
use Rattle.std.proofs.Common.{◌≡◌, ℕ, zero, suc, ◌+◌, ◌<◌, ◌&&◌, ◌||◌, not, inl, inr, Bool, true, false, List, length, sym, ap, ◌∙◌, subst, arith}
use Rattle.std.proofs.lemmas.Bool.{cases_eq, or_left, or_right}
use Rattle.tpl_model.specs.Graph.{TaskGraph, kind}
use Rattle.tpl_model.specs.Rules.{to_end}
use Rattle.tpl_model.specs.Certificate.{PlainRow, may_end}
use Rattle.tpl_laws.specs.RowTests.{some_below, none_complete}

-- the task has to end, started or not, and can't
abbrev pub is_stuck : TaskGraph → List PlainRow → ℕ → Bool
is_stuck g rows x = to_end (kind g x) false && not (may_end rows x)

-- none of the first n tasks is stuck
abbrev pub NoneStuck : TaskGraph → List PlainRow → ℕ → Type 0
NoneStuck g rows n = some_below (is_stuck g rows) n ≡ false

pub next_not_stuck : (g : TaskGraph) (rows : List PlainRow) (n : ℕ) → is_stuck g rows n ≡ false → NoneStuck g rows n → NoneStuck g rows (n + 1)
next_not_stuck g rows n e s = subst (NoneStuck g rows) next (ap (λ z. z || some_below (is_stuck g rows) n) e ∙ s)
  where
    next : suc n ≡ n + 1
    next = omega arith

some_there : (test : ℕ → Bool) (n i : ℕ) → i < n → test i ≡ true → some_below test n ≡ true
some_there test zero i lt e = absurd (omega arith)
some_there test (suc n) i lt e = elim (cases_eq i n) [
  | inl is ↦ or_left (test n) (some_below test n) (subst (λ z. test z ≡ true) is e)
  | inr other ↦ or_right (test n) (some_below test n) (some_there test n i (omega arith) e)
]

pub stuck_there : (g : TaskGraph) (rows : List PlainRow) (i : ℕ) → i < length g.tasks → is_stuck g rows i ≡ true → true ≡ none_complete g rows
stuck_there g rows i lt e = sym (some_there (is_stuck g rows) (length g.tasks) i lt e)

pub none_stuck : (g : TaskGraph) (rows : List PlainRow) (n : ℕ) → n ≡ length g.tasks → NoneStuck g rows n → false ≡ none_complete g rows
none_stuck g rows n e s = sym (subst (NoneStuck g rows) e s)
