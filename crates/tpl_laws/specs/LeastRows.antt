-- The least rows of a leaf: they run and end only as K1 and K2 demand, and of begins and ends say all that K3 to K5 permit.
use Rattle.std.specs.Prelude.{ℕ, zero, suc, ◌&&◌, ◌||◌, not, Bool, true, false, Option, Some, None, List, [], ◌∷◌, length, nat_eq, slice_set, replicate, if◌then◌else◌}
use Rattle.tpl_model.specs.declared.finals.Final.{Final}
use Rattle.tpl_model.specs.declared.finals.Final.TheVariants.{RanToCompletion, Canceled, Faulted}
use Rattle.tpl_model.specs.declared.finals.Finals.{Finals}
use Rattle.tpl_model.specs.Finals.{has, is_final}
use Rattle.tpl_model.specs.Members.{mem}
use Rattle.tpl_model.specs.TaskSet.{passing_from}
use Rattle.tpl_model.specs.Knowledge.{IsSettled, IsRequested}
use Rattle.tpl_model.specs.Graph.{TaskGraph, TaskKind, WhenAll, WhenAny, kind, attached, some_in}
use Rattle.tpl_model.specs.declared.ids.TaskId.{TaskId}
use Rattle.tpl_model.specs.declared.limits.TheConstants.{MOST_IN_CHAIN}
use Rattle.tpl_model.specs.declared.claim.Property.{Property}
use Rattle.tpl_model.specs.declared.claim.Property.TheVariants.{Observed}
use Rattle.tpl_model.specs.Certificate.{row, end_left, may_end, Row, plain}
use Rattle.tpl_model.specs.TokenRules.{whole_row, LeafAssumed, kind_left, may_run, way_final}
use Rattle.tpl_laws.specs.RowTests.{all_may_end, some_end, parent_of, is_below, reads, takes_over, some_below}
use Rattle.tpl_laws.specs.TokenTests.{token_runs_by, each_way, begin_by, end_by, reads_winner}

-- the tasks of the graph that pass the test, and the tokens
abbrev pub tasks_where : TaskGraph → (ℕ → Bool) → List ℕ
tasks_where g test = passing_from test 0 (length g.tasks)

abbrev pub tokens_where : TaskGraph → (ℕ → Bool) → List ℕ
tokens_where g test = passing_from test 0 (length g.tokens)

-- the ways to end that pass it
abbrev pub ends_where : (Final → Bool) → Finals
ends_where test = record { ran = test RanToCompletion; canceled = test Canceled; faulted = test Faulted }

-- a row that says nothing
abbrev pub blank_row : Row
blank_row = whole_row [] 0

-- the row of t once it is known whether t may begin: it runs if K1 demands it, and if so says all of its begin that K3
-- permits
abbrev pub begun_row : TaskGraph → LeafAssumed → List Row → ℕ → Bool → Row
begun_row g l rows t false = blank_row
begun_row g l rows t true = record {
  row = record {
    ends = ends_where (λ f. false);
    runs = true;
    before = tasks_where g (λ x. begin_by g l rows t (kind g t) (IsSettled x));
    past = [];
    chain = [];
  };
  asked = tokens_where g (λ k. begin_by g l rows t (kind g t) (IsRequested k));
  asks = [];
}

-- K2 demands that a task of this kind may end so
abbrev pub has_to_end_so : TaskGraph → LeafAssumed → List Row → ℕ → TaskKind → Final → Bool
has_to_end_so g l rows t (WhenAll args) f = all_may_end (plain rows) args f && end_left l.assumed t f
has_to_end_so g l rows t (WhenAny args) f = is_final RanToCompletion f && (some_in (may_end (plain rows)) args && end_left l.assumed t f)
has_to_end_so g l rows t kind f = not (each_way g l rows t (λ way. not (is_final (way_final way) f)))

-- r reads the exception of y, itself or behind a WhenAny task that y alone may win
abbrev pub is_reader : TaskGraph → LeafAssumed → ℕ → ℕ → Bool
is_reader g l y r = reads g l.assumed r y || reads_winner g l r y (kind g r)

-- so many tasks, one after another, take over the exception of y before one reads it
abbrev pub is_read_after : TaskGraph → LeafAssumed → ℕ → ℕ → Bool
is_read_after g l zero y = some_below (is_reader g l y) (length g.tasks)
is_read_after g l (suc n) y = some_below (λ x. takes_over g x y && is_read_after g l n x) (length g.tasks)

-- the least of n numbers from low on that passes the test
abbrev pub least_from : (ℕ → Bool) → ℕ → ℕ → Option ℕ
least_from test low zero = None
least_from test low (suc n) = if test low then Some low else least_from test (suc low) n

-- a number before a list that depends on it; without one the list is empty
abbrev pub followed : Option ℕ → (ℕ → List ℕ) → List ℕ
followed None rest = []
followed (Some x) rest = x ∷ rest x

-- those tasks and the reader, at each place the least task that will do
abbrev pub chain_after : TaskGraph → LeafAssumed → ℕ → ℕ → List ℕ
chain_after g l zero y = followed (least_from (is_reader g l y) 0 (length g.tasks)) (λ r. [])
chain_after g l (suc n) y = followed (least_from (λ x. takes_over g x y && is_read_after g l n x) 0 (length g.tasks)) (chain_after g l n)

-- the chain after the least number of tasks, of n numbers from low on, after which the exception is read
abbrev pub chain_from : TaskGraph → LeafAssumed → ℕ → ℕ → ℕ → List ℕ
chain_from g l y low zero = []
chain_from g l y low (suc n) = if is_read_after g l low y then chain_after g l low y else chain_from g l y (suc low) n

-- the shortest chain of y that the limits allow, of at most MOST_IN_CHAIN tasks
abbrev pub shortest_chain : TaskGraph → LeafAssumed → ℕ → List ℕ
shortest_chain g l y = chain_from g l y 0 MOST_IN_CHAIN

-- only the task whose exception is to be observed has a chain
abbrev pub chain_for : TaskGraph → LeafAssumed → Property TaskId → ℕ → List ℕ
chain_for g l (Observed o) t = if nat_eq o.0 t then shortest_chain g l t else []
chain_for g l p t = []

-- the row of t, which ends in these ways, once it is known how: if in any, it says all of its end that K4 or K5 permits
abbrev pub ended_by : TaskGraph → LeafAssumed → Property TaskId → List Row → ℕ → Finals → Row
ended_by g l p rows t ends = record {
  row = record {
    ends = ends;
    runs = may_run rows t;
    before = (row (plain rows) t).before;
    past = if some_end (has ends) then tasks_where g (λ x. end_by g l rows t (kind_left g l t) (IsSettled x)) else [];
    chain = chain_for g l p t;
  };
  asked = (whole_row rows t).asked;
  asks = if some_end (has ends) then tokens_where g (λ k. end_by g l rows t (kind_left g l t) (IsRequested k)) else [];
}

abbrev pub ended_row : TaskGraph → LeafAssumed → Property TaskId → List Row → ℕ → Row
ended_row g l p rows t = ended_by g l p rows t (ends_where (has_to_end_so g l rows t (kind_left g l t)))

-- the rows with that of t as it begins, and as it ends
abbrev pub begin_step : TaskGraph → LeafAssumed → ℕ → List Row → List Row
begin_step g l t rows = slice_set rows t (begun_row g l rows t (not (token_runs_by g l rows t (kind g t))))

abbrev pub end_step : TaskGraph → LeafAssumed → Property TaskId → ℕ → List Row → List Row
end_step g l p t rows = slice_set rows t (ended_row g l p rows t)

-- the rows after a step for each of the first n tasks that passes the test: upwards, and downwards
abbrev pub upwards : (ℕ → Bool) → (ℕ → List Row → List Row) → ℕ → List Row → List Row
upwards test step zero rows = rows
upwards test step (suc n) rows = if test n then step n (upwards test step n rows) else upwards test step n rows

abbrev pub downwards : (ℕ → Bool) → (ℕ → List Row → List Row) → ℕ → List Row → List Row
downwards test step zero rows = rows
downwards test step (suc n) rows = downwards test step n (if test n then step n rows else rows)

-- the rows with those of t and of all below it: parents begin before their children, and end after them
abbrev pub family_step : TaskGraph → LeafAssumed → Property TaskId → ℕ → List Row → List Row
family_step g l p t rows =
    end_step g l p t (downwards (is_below g t) (end_step g l p) (length g.tasks) (upwards (is_below g t) (begin_step g l) (length g.tasks) (begin_step g l t rows)))

-- t is attached to its parent
abbrev pub is_attached_to : TaskGraph → ℕ → Option ℕ → Bool
is_attached_to g t None = false
is_attached_to g t (Some p) = mem t (attached g p)

-- the least rows of a leaf that assumes this and is to prove the property: family by family, in declared order
abbrev pub least_rows : TaskGraph → LeafAssumed → Property TaskId → List Row
least_rows g l p = upwards (λ t. not (is_attached_to g t (parent_of g t))) (family_step g l p) (length g.tasks) (replicate (length g.tasks) blank_row)
