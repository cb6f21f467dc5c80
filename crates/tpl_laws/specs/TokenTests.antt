-- The rules with tokens for rows that speak of tokens, as tests that compute.
use Rattle.std.specs.Prelude.{◌≡◌, ℕ, zero, suc, ◌↔◌, ◌&&◌, ◌||◌, not, Bool, true, false, Option, Some, None, List, [], ◌∷◌, nat_eq, length, is_some}
use Rattle.tpl_model.specs.declared.finals.Final.TheVariants.{RanToCompletion, Canceled, Faulted}
use Rattle.tpl_model.specs.Finals.{has}
use Rattle.tpl_model.specs.Members.{mem}
use Rattle.tpl_model.specs.Options.{allows, lazy_cancellation}
use Rattle.tpl_model.specs.Recursion.{must_observe}
use Rattle.tpl_model.specs.Knowledge.{Fact, IsSettled, IsRequested, Knowledge, at_throw}
use Rattle.tpl_model.specs.Graph.{TaskGraph, TaskKind, Root, Child, Continues, WhenAll, WhenAny, task, kind, body, options, some_in}
use Rattle.tpl_model.specs.Rules.{token_requested_by}
use Rattle.tpl_model.specs.Valid.{IsGraph}
use Rattle.tpl_model.specs.declared.ids.TaskId.{TaskId}
use Rattle.tpl_model.specs.declared.claim.Property.{Property}
use Rattle.tpl_model.specs.declared.claim.Property.TheVariants.{Observed}
use Rattle.tpl_model.specs.declared.fault.Rule.{Rule}
use Rattle.tpl_model.specs.declared.fault.Rule.TheVariants.{K1, K2, K3, K6}
use Rattle.tpl_model.specs.Certificate.{row, end_left, is_loud, may_end, Row, plain}
use Rattle.tpl_model.specs.TokenRules.{whole_row, begins_with, once_ended, linked, LeafAssumed, kind_left, reading, asked_of, known_at_end, known_at_start, own_among, may_run, Way, ByBody, RootDropped, ChildDropped, DroppedEarly, DroppedLate, NotAllowed, way_final, IsClosedWithTokens, ClosedWithTokens, ProvesWithTokens}
use Rattle.tpl_laws.specs.RowTests.{implies, all_in, each_end, some_end, parent_of, by_parent, is_below, all_may_end, takes_over, faulted_view, reads, is_none, none_complete}
use Rattle.tpl_laws.specs.ClaimTests.{proves}
use Rattle.tpl_laws.specs.Verdict.{or_else, unless, past_rule, LeafFault, ProvesNot, breaks}

-- what is known passes the test, if there are paths
abbrev pub if_known : Option Knowledge → (Knowledge → Bool) → Bool
if_known None test = true
if_known (Some known) test = test known

-- each fact with which the row lets t begin passes the test
abbrev pub each_begin : List Row → ℕ → (Fact → Bool) → Bool
each_begin rows t test = all_in (λ x. test (IsSettled x)) (row (plain rows) t).before && all_in (λ k. test (IsRequested k)) (whole_row rows t).asked

-- each fact with which the row lets t end passes it
abbrev pub each_ending : List Row → ℕ → (Fact → Bool) → Bool
each_ending rows t test = all_in (λ x. test (IsSettled x)) (row (plain rows) t).past && all_in (λ k. test (IsRequested k)) (whole_row rows t).asks

-- a task that may begin has a row that runs
abbrev pub token_runs_by : TaskGraph → LeafAssumed → List Row → ℕ → TaskKind → Bool
token_runs_by g l rows t Root = may_run rows t
token_runs_by g l rows t (Continues a) =
    each_end (λ f. implies (has (row (plain rows) a).ends f) (implies (allows (options g t) f) (implies (not (own_among g t (λ k. mem k (whole_row rows a).asks))) (may_run rows t))))
token_runs_by g l rows t Child =
    by_parent (parent_of g t)
    (λ p. implies (may_run rows p) (if_known (known_at_start g l rows p t) (λ known. implies (not (own_among g t known.requested)) (may_run rows t))))
token_runs_by g l rows t kind = true

-- each way in which a task of this kind may be canceled before it begins passes the test
abbrev pub each_drop : TaskGraph → LeafAssumed → List Row → ℕ → TaskKind → (Way → Bool) → Bool
each_drop g l rows t Root test = implies (is_loud g l.assumed t) (test RootDropped)
each_drop g l rows t Child test =
    by_parent (parent_of g t) (λ p. implies (is_loud g l.assumed t && may_run rows p) (if_known (known_at_start g l rows p t) (λ known. test (ChildDropped p known))))
each_drop g l rows t (Continues a) test =
    implies (is_loud g l.assumed t && not (lazy_cancellation (options g t))) (test DroppedEarly)
    && (implies (is_loud g l.assumed t && may_end (plain rows) a) (test DroppedLate)
    && implies (some_end (λ f. has (row (plain rows) a).ends f && not (allows (options g t) f))) (test NotAllowed))
each_drop g l rows t kind test = true

-- each way in which its body may end it does
abbrev pub each_body_end : TaskGraph → LeafAssumed → List Row → ℕ → (Way → Bool) → Bool
each_body_end g l rows t test = implies (may_run rows t) (each_end (λ f. implies (end_left l.assumed t f) (if_known (known_at_end g l rows t f) (λ known. test (ByBody f known)))))

-- each way that is left to it does
abbrev pub each_way : TaskGraph → LeafAssumed → List Row → ℕ → (Way → Bool) → Bool
each_way g l rows t test = each_body_end g l rows t test && implies (end_left l.assumed t Canceled) (each_drop g l rows t (kind g t) test)

-- its row has each of its ends
abbrev pub token_ends_by : TaskGraph → LeafAssumed → List Row → ℕ → TaskKind → Bool
token_ends_by g l rows t (WhenAll args) = each_end (λ f. implies (end_left l.assumed t f) (implies (all_may_end (plain rows) args f) (has (row (plain rows) t).ends f)))
token_ends_by g l rows t (WhenAny args) = implies (end_left l.assumed t RanToCompletion) (implies (some_in (may_end (plain rows)) args) (has (row (plain rows) t).ends RanToCompletion))
token_ends_by g l rows t kind = each_way g l rows t (λ way. has (row (plain rows) t).ends (way_final way))

-- what may be said of when it begins
abbrev pub begin_by : TaskGraph → LeafAssumed → List Row → ℕ → TaskKind → Fact → Bool
begin_by g l rows t Root fact = false
begin_by g l rows t (Continues a) fact = once_ended rows a fact
begin_by g l rows t Child (IsSettled x) = by_parent (parent_of g t) (λ p. mem x (row (plain rows) p).before)
begin_by g l rows t Child (IsRequested k) = by_parent (parent_of g t) (λ p. if_known (known_at_start g l rows p t) (λ known. known.requested k))
begin_by g l rows t kind fact = true

-- the own token is requested, and what is linked to it
abbrev pub own_requested : TaskGraph → ℕ → Fact → Bool
own_requested g t (IsSettled x) = false
own_requested g t (IsRequested j) = token_requested_by (task g t).token (λ k. linked g k j)

-- a task that is settled when p begins
abbrev pub settled_before : List Row → ℕ → Fact → Bool
settled_before rows p (IsSettled x) = mem x (row (plain rows) p).before
settled_before rows p (IsRequested k) = false

-- a token that the paths know
abbrev pub known_there : Knowledge → Fact → Bool
known_there known (IsSettled x) = false
known_there known (IsRequested k) = known.requested k

-- what holds once a task of this kind may begin, besides what its row says
abbrev pub before_begin : TaskGraph → List Row → ℕ → TaskKind → Fact → Bool
before_begin g rows t (Continues a) fact = once_ended rows a fact
before_begin g rows t Child fact = by_parent (parent_of g t) (λ p. settled_before rows p fact)
before_begin g rows t kind fact = false

-- a fact that holds where t ended in this way
abbrev pub holds_by : TaskGraph → List Row → ℕ → TaskKind → Fact → Way → Bool
holds_by g rows t kind fact (ByBody f known) =
    begins_with rows t fact || (before_begin g rows t kind fact || known.later fact)
holds_by g rows t kind fact RootDropped = own_requested g t fact
holds_by g rows t kind fact (ChildDropped p known) = own_requested g t fact || (settled_before rows p fact || known_there known fact)
holds_by g rows t kind fact DroppedEarly = own_requested g t fact
holds_by g rows t kind fact DroppedLate = own_requested g t fact || before_begin g rows t kind fact
holds_by g rows t kind fact NotAllowed = before_begin g rows t kind fact

-- a task below t is settled
abbrev pub settled_below : TaskGraph → ℕ → Fact → Bool
settled_below g t (IsSettled x) = is_below g t x
settled_below g t (IsRequested k) = false

-- what may be said of when it has ended
abbrev pub end_by : TaskGraph → LeafAssumed → List Row → ℕ → TaskKind → Fact → Bool
end_by g l rows t (WhenAll args) fact = some_in (λ y. once_ended rows y fact) args
end_by g l rows t (WhenAny args) fact = all_in (λ y. implies (may_end (plain rows) y) (once_ended rows y fact)) args
end_by g l rows t kind fact = settled_below g t fact || each_way g l rows t (holds_by g rows t kind fact)

-- y alone may win a task of this kind
abbrev pub is_won_by : TaskKind → ℕ → Bool
is_won_by (WhenAny args) y = mem y args && all_in (λ x. nat_eq x y) args
is_won_by kind y = false

-- r, a task of this kind, continues a WhenAny task that y alone may win, and reads y's exception
abbrev pub reads_winner : TaskGraph → LeafAssumed → ℕ → ℕ → TaskKind → Bool
reads_winner g l r y (Continues n) =
    is_won_by (kind_left g l n) y
    && (allows (options g r) RanToCompletion && (not (is_loud g l.assumed r) && must_observe (faulted_view g l.assumed r) (body g r)))
reads_winner g l r y kind = false

-- the tasks of a chain from y on take over one after another, and the last one reads, itself or behind WhenAny
abbrev pub token_links : TaskGraph → LeafAssumed → ℕ → List ℕ → Bool
token_links g l y [] = false
token_links g l y (x ∷ []) = reads g l.assumed x y || reads_winner g l x y (kind g x)
token_links g l y (x ∷ z ∷ zs) = takes_over g x y && token_links g l x (z ∷ zs)

-- a chain is empty or leads from t to its reader
abbrev pub token_chain : TaskGraph → LeafAssumed → ℕ → List ℕ → Bool
token_chain g l t [] = true
token_chain g l t (x ∷ chain) = token_links g l t (x ∷ chain)

-- the first rule that the row of t breaks
abbrev pub token_broken : TaskGraph → LeafAssumed → List Row → ℕ → Option Rule
token_broken g l rows t =
    unless (token_runs_by g l rows t (kind g t)) K1
    (unless (token_ends_by g l rows t (kind_left g l t)) K2
    (unless (implies (may_run rows t) (each_begin rows t (begin_by g l rows t (kind g t)))) K3
    (unless (each_ending rows t (end_by g l rows t (kind_left g l t))) (past_rule (kind g t))
    (unless (token_chain g l t (row (plain rows) t).chain) K6 None))))

-- a closed leaf proves the claim
abbrev pub token_proves : TaskGraph → LeafAssumed → List Row → Property TaskId → Bool
token_proves g l rows (Observed t) =
    not (is_none (row (plain rows) t.0).chain)
    || (not (has (row (plain rows) t.0).ends Faulted)
    || (not (may_run rows t.0)
    || (not (is_some (at_throw (reading g l rows t.0) (asked_of rows t.0) (body g t.0))) || none_complete g (plain rows))))
token_proves g l rows p = proves g l.assumed (plain rows) p

-- the first task, of n from t on, whose row breaks a rule
abbrev pub token_first_broken : TaskGraph → LeafAssumed → List Row → ℕ → ℕ → Option LeafFault
token_first_broken g l rows t zero = None
token_first_broken g l rows t (suc n) = or_else (breaks t (token_broken g l rows t)) (token_first_broken g l rows (suc t) n)

-- the first fault of a leaf
abbrev pub token_leaf_fault : TaskGraph → Property TaskId → LeafAssumed → List Row → Option LeafFault
token_leaf_fault g p l rows = or_else (token_first_broken g l rows 0 (length g.tasks)) (unless (token_proves g l rows p) ProvesNot None)

-- the row of a task breaks no rule just where it keeps them all
abbrev pub TokenBrokenIsRight : Type 0
TokenBrokenIsRight = (g : TaskGraph) (l : LeafAssumed) (rows : List Row) (t : ℕ) → IsGraph g → (token_broken g l rows t ≡ None) ↔ IsClosedWithTokens g l rows t

-- a leaf has no fault just where it is closed and proves the claim
abbrev pub TokenLeafIsRight : Type 0
TokenLeafIsRight =
    (g : TaskGraph) (p : Property TaskId) (l : LeafAssumed) (rows : List Row) → IsGraph g
    → (token_leaf_fault g p l rows ≡ None) ↔ (ClosedWithTokens g l rows × ProvesWithTokens g l rows p)
