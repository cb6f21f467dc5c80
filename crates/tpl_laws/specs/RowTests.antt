-- The rules for the rows of a leaf, as tests that compute.
use Rattle.std.specs.Prelude.{ℕ, zero, suc, ◌&&◌, ◌||◌, not, Bool, true, false, if◌then◌else◌, Option, Some, None, List, [], ◌∷◌, length, nat_eq}
use Rattle.tpl_model.specs.declared.finals.Final.{Final}
use Rattle.tpl_model.specs.declared.finals.Final.TheVariants.{RanToCompletion, Canceled, Faulted}
use Rattle.tpl_model.specs.Finals.{has, is_final}
use Rattle.tpl_model.specs.Options.{allows, lazy_cancellation}
use Rattle.tpl_model.specs.Members.{mem}
use Rattle.tpl_model.specs.Statements.{starts}
use Rattle.tpl_model.specs.Graph.{TaskGraph, TaskKind, Root, Child, Continues, WhenAll, WhenAny, task, kind, body, options, attached, some_in}
use Rattle.tpl_model.specs.Certificate.{PlainRow, row, Assumed, end_left, is_loud, view, may_end_early, may_end}
use Rattle.tpl_model.specs.Rules.{to_end}
use Rattle.tpl_model.specs.Paths.{Known}
pub use Rattle.tpl_model.specs.Ends.{is_return, is_acknowledgement}
use Rattle.tpl_model.specs.Recursion.{may, none, is_throw, must_observe, reaches}

-- where the first test holds, so does the second
abbrev pub implies : Bool → Bool → Bool
implies true b = b
implies false b = true

-- each of the list passes the test
abbrev pub all_in : (ℕ → Bool) → List ℕ → Bool
all_in test [] = true
all_in test (x ∷ xs) = test x && all_in test xs

-- each way to end passes the test
abbrev pub each_end : (Final → Bool) → Bool
each_end test = test RanToCompletion && (test Canceled && test Faulted)

-- some way to end passes the test
abbrev pub some_end : (Final → Bool) → Bool
some_end test = test RanToCompletion || (test Canceled || test Faulted)

-- the task whose body starts t: the first of n tasks, from p on
abbrev pub parent_from : TaskGraph → ℕ → ℕ → ℕ → Option ℕ
parent_from g t p zero = None
parent_from g t p (suc n) = if mem t (starts (body g p)) then Some p else parent_from g t (suc p) n

-- the parent of t, if it has one
abbrev pub parent_of : TaskGraph → ℕ → Option ℕ
parent_of g t = parent_from g t 0 (length g.tasks)

-- the test of the parent, if there is one
abbrev pub by_parent : Option ℕ → (ℕ → Bool) → Bool
by_parent None test = true
by_parent (Some p) test = test p

-- x is an attached child of t, or of one, and so on: from x up to its parent, n times at most
abbrev pub below_by : TaskGraph → ℕ → ℕ → Option ℕ → (ℕ → Bool) → Bool
below_by g t x None above = false
below_by g t x (Some p) above = mem x (attached g p) && (nat_eq p t || above p)

-- x is below t, by n steps up at most
abbrev pub below_within : TaskGraph → ℕ → ℕ → ℕ → Bool
below_within g t zero x = false
below_within g t (suc n) x = below_by g t x (parent_of g x) (below_within g t n)

-- x is below t: a parent is declared before its child, so there are no more than x steps up
abbrev pub is_below : TaskGraph → ℕ → ℕ → Bool
is_below g t x = below_within g t x x

-- a task has a row that runs, if it may begin
abbrev pub runs_by : TaskGraph → Assumed → List PlainRow → ℕ → TaskKind → Bool
runs_by g l rows t Root = (row rows t).runs
runs_by g l rows t (Continues a) = each_end (λ f. implies (has (row rows a).ends f) (implies (allows (options g t) f) (row rows t).runs))
runs_by g l rows t Child =
    by_parent (parent_of g t) (λ p. implies (row rows p).runs (implies (reaches t (view g l rows p) (body g p)) (row rows t).runs))
runs_by g l rows t kind = true

-- K1
abbrev pub runs : TaskGraph → Assumed → List PlainRow → ℕ → Bool
runs g l rows t = runs_by g l rows t (kind g t)

-- the body of t may throw
abbrev pub may_throw : TaskGraph → Assumed → List PlainRow → ℕ → Bool
may_throw g l rows t = may none is_throw (view g l rows t) (body g t)

-- the body of t may end the task so
abbrev pub body_may_end : TaskGraph → Assumed → List PlainRow → ℕ → Final → Bool
body_may_end g l rows t RanToCompletion = may none is_return (view g l rows t) (body g t)
body_may_end g l rows t Canceled = may none is_acknowledgement (view g l rows t) (body g t)
body_may_end g l rows t Faulted =
    may_throw g l rows t || some_in (λ c. reaches c (view g l rows t) (body g t) && has (row rows c).ends Faulted) (attached g t)

-- a continuation may be canceled without its body
abbrev pub may_be_canceled : TaskGraph → Assumed → List PlainRow → ℕ → ℕ → Bool
may_be_canceled g l rows t a =
    (is_loud g l t && not (lazy_cancellation (options g t)))
    || ((is_loud g l t && some_end (has (row rows a).ends)) || some_end (λ f. has (row rows a).ends f && not (allows (options g t) f)))

-- how WhenAll may end
abbrev pub all_may_end : List PlainRow → List ℕ → Final → Bool
all_may_end rows args RanToCompletion = all_in (λ x. has (row rows x).ends RanToCompletion) args
all_may_end rows args Canceled =
    all_in (λ x. some_end (λ f. not (is_final f Faulted) && has (row rows x).ends f)) args && some_in (λ x. has (row rows x).ends Canceled) args
all_may_end rows args Faulted = all_in (λ x. some_end (has (row rows x).ends)) args && some_in (λ x. has (row rows x).ends Faulted) args

-- how a task may end
abbrev pub may_end_as : TaskGraph → Assumed → List PlainRow → ℕ → TaskKind → Final → Bool
may_end_as g l rows t Root f = (row rows t).runs && (body_may_end g l rows t f || (is_final f Canceled && is_loud g l t))
may_end_as g l rows t Child f = (row rows t).runs && (body_may_end g l rows t f || (is_final f Canceled && is_loud g l t))
may_end_as g l rows t (Continues a) f = ((row rows t).runs && body_may_end g l rows t f) || (is_final f Canceled && may_be_canceled g l rows t a)
may_end_as g l rows t (WhenAll args) f = all_may_end rows args f
may_end_as g l rows t (WhenAny args) f = is_final f RanToCompletion && some_in (λ x. some_end (has (row rows x).ends)) args

-- K2
abbrev pub ends : TaskGraph → Assumed → List PlainRow → ℕ → Bool
ends g l rows t = each_end (λ f. implies (end_left l t f) (implies (may_end_as g l rows t (kind g t) f) (has (row rows t).ends f)))

-- what may be taken as settled when a task begins
abbrev pub before_by : TaskGraph → List PlainRow → ℕ → TaskKind → ℕ → Bool
before_by g rows t Root x = false
before_by g rows t (Continues a) x = nat_eq x a || mem x (row rows a).past
before_by g rows t Child x = by_parent (parent_of g t) (λ p. mem x (row rows p).before)
before_by g rows t kind x = true

-- K3
abbrev pub before : TaskGraph → List PlainRow → ℕ → Bool
before g rows t = implies (row rows t).runs (all_in (before_by g rows t (kind g t)) (row rows t).before)

-- what may be taken as settled when a task has ended
abbrev pub past_by : TaskGraph → Assumed → List PlainRow → ℕ → TaskKind → ℕ → Bool
past_by g l rows t Root x = is_below g t x
past_by g l rows t Child x = by_parent (parent_of g t) (λ p. mem x (row rows p).before) || is_below g t x
past_by g l rows t (Continues a) x = (not (may_end_early g l rows t) && (nat_eq x a || mem x (row rows a).past)) || is_below g t x
past_by g l rows t (WhenAll args) x = some_in (λ y. nat_eq x y || mem x (row rows y).past) args
past_by g l rows t (WhenAny args) x = all_in (λ y. nat_eq x y || mem x (row rows y).past) args

-- K4 and K5
abbrev pub past : TaskGraph → Assumed → List PlainRow → ℕ → Bool
past g l rows t = all_in (past_by g l rows t (kind g t)) (row rows t).past

-- a WhenAll task has the argument y
abbrev pub is_argument : ℕ → TaskKind → Bool
is_argument y (WhenAll args) = mem y args
is_argument y kind = false

-- x takes over what y carries: it is the parent of its attached child y, or a WhenAll task with the argument y
abbrev pub takes_over : TaskGraph → ℕ → ℕ → Bool
takes_over g x y = mem y (attached g x) || is_argument y (kind g x)

-- a task of this kind continues y
abbrev pub continues : ℕ → TaskKind → Bool
continues y (Continues a) = nat_eq a y
continues y kind = false

-- what a continuation sees whose subject is faulted
abbrev pub faulted_view : TaskGraph → Assumed → ℕ → Known
faulted_view g l r = record { possible = l.possible; quiet = l.quiet; own = (task g r).token; subject = λ f. is_final f Faulted; sure = l.sure }

-- r is a continuation of y that reads y's exception wherever y is faulted
abbrev pub reads : TaskGraph → Assumed → ℕ → ℕ → Bool
reads g l r y = continues y (kind g r) && (allows (options g r) Faulted && (not (is_loud g l r) && must_observe (faulted_view g l r) (body g r)))

-- the tasks of a chain from y on take over one after another, and the last one reads
abbrev pub links : TaskGraph → Assumed → ℕ → List ℕ → Bool
links g l y [] = false
links g l y (x ∷ []) = reads g l x y
links g l y (x ∷ z ∷ zs) = takes_over g x y && links g l x (z ∷ zs)

-- a chain is empty or leads from t to its reader
abbrev pub chain_by : TaskGraph → Assumed → ℕ → List ℕ → Bool
chain_by g l t [] = true
chain_by g l t (x ∷ chain) = links g l t (x ∷ chain)

-- K6
abbrev pub chain : TaskGraph → Assumed → List PlainRow → ℕ → Bool
chain g l rows t = chain_by g l t (row rows t).chain

-- the list is empty
abbrev pub is_none : List ℕ → Bool
is_none [] = true
is_none (x ∷ xs) = false

-- some number below n passes the test
abbrev pub some_below : (ℕ → Bool) → ℕ → Bool
some_below test zero = false
some_below test (suc n) = test n || some_below test n

-- a task that has to end, started or not, can't
abbrev pub none_complete : TaskGraph → List PlainRow → Bool
none_complete g rows = some_below (λ x. to_end (kind g x) false && not (may_end rows x)) (length g.tasks)
