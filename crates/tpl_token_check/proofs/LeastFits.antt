-- The least rows are one for each task, and the ids in them are the graph's.
use Rattle.std.proofs.Common.{◌≡◌, ℕ, zero, suc, ◌+◌, ◌<◌, ◌&&◌, Bool, true, false, if◌then◌else◌, Option, Some, None, List, [], ◌∷◌, length, replicate, nat_eq, nat_lt, slice_set, refl, ◌∙◌, arith}
use Rattle.std.proofs.lemmas.Bool.{and_from, lt-ltb}
use Rattle.std.proofs.lemmas.List.{length-replicate, length-set}
use Rattle.tpl_model.proofs.SetLists.{mem_within, passing_from-ascends}
use Rattle.tpl_model.proofs.Truths.{and_first, and_second}
use Rattle.tpl_model.specs.Finals.{has}
use Rattle.tpl_model.specs.declared.finals.Finals.{Finals}
use Rattle.tpl_model.specs.declared.ids.TaskId.{TaskId}
use Rattle.tpl_model.specs.declared.claim.Property.{Property}
use Rattle.tpl_model.specs.declared.claim.Property.TheVariants.{Observed}
use Rattle.tpl_model.specs.Graph.{TaskGraph}
use Rattle.tpl_model.specs.Certificate.{PlainRow, row, Row, plain}
use Rattle.tpl_model.specs.TokenRules.{LeafAssumed, kind_left}
use Rattle.tpl_laws.specs.RowTests.{is_below, some_end, takes_over}
use Rattle.tpl_laws.specs.Verdict.{has_tasks, rows_fit}
use Rattle.tpl_laws.specs.LeastRows.{blank_row, begun_row, ended_by, is_reader, is_read_after, least_from, followed, chain_after, chain_from, chain_for, begin_step, end_step, ended_row, ends_where, has_to_end_so, upwards, downwards, family_step, least_rows, tasks_where}
use Rattle.tpl_laws.proofs.Deciding.{itself, of_all}

some_same : (x y : ℕ) → Some x ≡ Some y → x ≡ y
some_same x y e = cc

least_below : (test : ℕ → Bool) (low n x : ℕ) → least_from test low n ≡ Some x → x < low + n
least_below test low zero x e = absurd (cc)
least_below test low (suc n) x e = pick (test low) e (λ h. least_below test (suc low) n x h)
  where
    pick : (b : Bool) → (if b then Some low else least_from test (suc low) n) ≡ Some x → (least_from test (suc low) n ≡ Some x → x < suc low + n) → x < low + suc n
    pick true h later = let same = some_same low x h in omega arith
    pick false h later = let below = later h in omega arith

-- one row for each task, and the ids in them are the graph's
pub record RowsFit (g : TaskGraph) (rows : List Row) : Type 0 where
  pub count : length rows ≡ length g.tasks
  pub ids : rows_fit g (plain rows) ≡ true

-- the ids in a row
abbrev row_ids : TaskGraph → PlainRow → Bool
row_ids g r = has_tasks g r.before && (has_tasks g r.past && has_tasks g r.chain)

module _ (g : TaskGraph) where
  where_fits : (test : ℕ → Bool) → has_tasks g (tasks_where g test) ≡ true
  where_fits test =
      (of_all (λ x. nat_lt x (length g.tasks) ≡ true) (λ x. nat_lt x (length g.tasks)) (tasks_where g test) (λ x. itself (nat_lt x (length g.tasks)))).1
      (λ x m. lt-ltb x (length g.tasks) (mem_within 0 (length g.tasks) (tasks_where g test) x (passing_from-ascends test 0 (length g.tasks) (length g.tasks) (omega arith)) m).1)

  -- ---- chains

  followed_fits : (o : Option ℕ) (rest : ℕ → List ℕ) → ((x : ℕ) → o ≡ Some x → x < length g.tasks) → ((x : ℕ) → has_tasks g (rest x) ≡ true) → has_tasks g (followed o rest) ≡ true
  followed_fits None rest inside all = refl
  followed_fits (Some x) rest inside all = and_from (nat_lt x (length g.tasks)) (has_tasks g (rest x)) (lt-ltb x (length g.tasks) (inside x refl)) (all x)

  least_inside : (test : ℕ → Bool) (x : ℕ) → least_from test 0 (length g.tasks) ≡ Some x → x < length g.tasks
  least_inside test x e = let below = least_below test 0 (length g.tasks) x e in omega arith

  after_fits : (l : LeafAssumed) (n y : ℕ) → has_tasks g (chain_after g l n y) ≡ true
  after_fits l zero y = followed_fits (least_from (is_reader g l y) 0 (length g.tasks)) (λ r. []) (least_inside (is_reader g l y)) (λ r. refl)
  after_fits l (suc n) y =
      followed_fits (least_from (λ x. takes_over g x y && is_read_after g l n x) 0 (length g.tasks)) (chain_after g l n) (least_inside (λ x. takes_over g x y && is_read_after g l n x)) (after_fits l n)

  from_fits : (l : LeafAssumed) (y low n : ℕ) → has_tasks g (chain_from g l y low n) ≡ true
  from_fits l y low zero = refl
  from_fits l y low (suc n) = pick (is_read_after g l low y) (from_fits l y (suc low) n)
    where
      pick : (b : Bool) → has_tasks g (chain_from g l y (suc low) n) ≡ true → has_tasks g (if b then chain_after g l low y else chain_from g l y (suc low) n) ≡ true
      pick true later = after_fits l low y
      pick false later = later

  chain_fits : (l : LeafAssumed) (p : Property TaskId) (t : ℕ) → has_tasks g (chain_for g l p t) ≡ true
  chain_fits l (Observed o) t = pick (nat_eq o.0 t)
    where
      pick : (b : Bool) → has_tasks g (if b then chain_from g l t 0 16 else []) ≡ true
      pick true = from_fits l t 0 16
      pick false = refl
  chain_fits l p t = refl

  -- ---- rows

  set_fits : (rows : List Row) (t : ℕ) (r : Row) → rows_fit g (plain rows) ≡ true → row_ids g r.row ≡ true → rows_fit g (plain (slice_set rows t r)) ≡ true
  set_fits [] t r e h = refl
  set_fits (x ∷ rows) zero r e h = and_from (row_ids g r.row) (rows_fit g (plain rows)) h (and_second (row_ids g x.row) (rows_fit g (plain rows)) e)
  set_fits (x ∷ rows) (suc t) r e h =
      and_from (row_ids g x.row) (rows_fit g (plain (slice_set rows t r))) (and_first (row_ids g x.row) (rows_fit g (plain rows)) e) (set_fits rows t r (and_second (row_ids g x.row) (rows_fit g (plain rows)) e) h)

  before_fits : (rows : List Row) (t : ℕ) → rows_fit g (plain rows) ≡ true → has_tasks g (row (plain rows) t).before ≡ true
  before_fits [] t e = refl
  before_fits (x ∷ rows) zero e = and_first (has_tasks g x.row.before) (has_tasks g x.row.past && has_tasks g x.row.chain) (and_first (row_ids g x.row) (rows_fit g (plain rows)) e)
  before_fits (x ∷ rows) (suc t) e = before_fits rows t (and_second (row_ids g x.row) (rows_fit g (plain rows)) e)

  blank_fits : (n : ℕ) → rows_fit g (plain (replicate n blank_row)) ≡ true
  blank_fits zero = refl
  blank_fits (suc n) = blank_fits n

  begun_fits : (l : LeafAssumed) (rows : List Row) (t : ℕ) (b : Bool) → row_ids g (begun_row g l rows t b).row ≡ true
  begun_fits l rows t true = and_from (has_tasks g (begun_row g l rows t true).row.before) true (where_fits _) refl
  begun_fits l rows t false = refl

  past_fits : (b : Bool) (test : ℕ → Bool) → has_tasks g (if b then tasks_where g test else []) ≡ true
  past_fits true test = where_fits test
  past_fits false test = refl

  ended_fits : (l : LeafAssumed) (p : Property TaskId) (rows : List Row) (t : ℕ) (ends : Finals) → rows_fit g (plain rows) ≡ true → row_ids g (ended_by g l p rows t ends).row ≡ true
  ended_fits l p rows t ends e =
      and_from (has_tasks g (row (plain rows) t).before) (has_tasks g (ended_by g l p rows t ends).row.past && has_tasks g (chain_for g l p t)) (before_fits rows t e)
      (and_from (has_tasks g (ended_by g l p rows t ends).row.past) (has_tasks g (chain_for g l p t)) (past_fits (some_end (has ends)) _) (chain_fits l p t))

  -- ---- step by step

  put_fits : (rows : List Row) (t : ℕ) (r : Row) → RowsFit g rows → row_ids g r.row ≡ true → RowsFit g (slice_set rows t r)
  put_fits rows t r f h = record { count = length-set rows t r ∙ f.count; ids = set_fits rows t r f.ids h }

  begin_fits : (l : LeafAssumed) (t : ℕ) (rows : List Row) → RowsFit g rows → RowsFit g (begin_step g l t rows)
  begin_fits l t rows f = put_fits rows t _ f (begun_fits l rows t _)

  end_fits : (l : LeafAssumed) (p : Property TaskId) (t : ℕ) (rows : List Row) → RowsFit g rows → RowsFit g (end_step g l p t rows)
  end_fits l p t rows f =
      let ends = ends_where (has_to_end_so g l rows t (kind_left g l t)) in put_fits rows t (ended_row g l p rows t) f (ended_fits l p rows t ends f.ids)

  module _ (test : ℕ → Bool) (step : ℕ → List Row → List Row) (fits : (t : ℕ) (rows : List Row) → RowsFit g rows → RowsFit g (step t rows)) where
    upwards_fit : (n : ℕ) (rows : List Row) → RowsFit g rows → RowsFit g (upwards test step n rows)
    upwards_fit zero rows f = f
    upwards_fit (suc n) rows f = pick (test n) (upwards_fit n rows f)
      where
        pick : (b : Bool) → RowsFit g (upwards test step n rows) → RowsFit g (if b then step n (upwards test step n rows) else upwards test step n rows)
        pick true h = fits n (upwards test step n rows) h
        pick false h = h

    downwards_fit : (n : ℕ) (rows : List Row) → RowsFit g rows → RowsFit g (downwards test step n rows)
    downwards_fit zero rows f = f
    downwards_fit (suc n) rows f = downwards_fit n (if test n then step n rows else rows) (pick (test n))
      where
        pick : (b : Bool) → RowsFit g (if b then step n rows else rows)
        pick true = fits n rows f
        pick false = f

  family_fits : (l : LeafAssumed) (p : Property TaskId) (t : ℕ) (rows : List Row) → RowsFit g rows → RowsFit g (family_step g l p t rows)
  family_fits l p t rows f =
      end_fits l p t _
      (downwards_fit (is_below g t) (end_step g l p) (end_fits l p) (length g.tasks) _
      (upwards_fit (is_below g t) (begin_step g l) (begin_fits l) (length g.tasks) (begin_step g l t rows) (begin_fits l t rows f)))

  pub least_rows_fit : (l : LeafAssumed) (p : Property TaskId) → RowsFit g (least_rows g l p)
  least_rows_fit l p =
      upwards_fit _ (family_step g l p) (family_fits l p) (length g.tasks) (replicate (length g.tasks) blank_row) (record { count = length-replicate (length g.tasks) blank_row; ids = blank_fits (length g.tasks) })
