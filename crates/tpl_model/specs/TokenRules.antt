-- The rules with tokens, for rows that speak of tokens too.
use Rattle.std.specs.Prelude.{◌≡◌, ℕ, zero, suc, ◌&&◌, ◌||◌, ◌⊎◌, not, Bool, true, false, if◌then◌else◌, Option, Some, None, List, [], ◌∷◌, map, filter, length, nat_eq, slice_index_or}
use Rattle.tpl_model.specs.declared.finals.Final.{Final}
use Rattle.tpl_model.specs.declared.finals.Final.TheVariants.{RanToCompletion, Canceled, Faulted}
use Rattle.tpl_model.specs.Finals.{has, is_final}
use Rattle.tpl_model.specs.Options.{allows, lazy_cancellation}
use Rattle.tpl_model.specs.Members.{mem}
use Rattle.tpl_model.specs.Paths.{Known, MustObserve}
use Rattle.tpl_model.specs.Knowledge.{Fact, IsSettled, IsRequested, Knowledge, ChildEnd, Reading, at_end, at_throw, at_start}
use Rattle.tpl_model.specs.Graph.{TaskGraph, TaskKind, Root, Child, Continues, WhenAll, WhenAny, task, kind, body, options, is_task, is_token, attached, through, IsParent}
use Rattle.tpl_model.specs.declared.event.Event.{Event}
use Rattle.tpl_model.specs.Facts.{winner_of, ending}
use Rattle.tpl_model.specs.Rules.{token_requested_by}
use Rattle.tpl_model.specs.declared.ids.TaskId.{TaskId}
use Rattle.tpl_model.specs.declared.claim.Property.{Property}
use Rattle.tpl_model.specs.declared.claim.Property.TheVariants.{Observed}
use Rattle.tpl_model.specs.Claims.{Claim}
use Rattle.tpl_model.specs.declared.rule_set.RuleSet.TheVariants.{WithTokens}
use Rattle.tpl_model.specs.Certificate.{PlainRow, Row, row, plain, Assumed, Agrees, same, assumed_for, with_input, with_end, end_left, is_loud, subject_ends, view, IsBelow, AllMayEnd, may_end, TakesOver, Reads, NoneComplete, Proves}

-- the row of the t-th task; past the last one an empty one
abbrev pub whole_row : List Row → ℕ → Row
whole_row rows t = slice_index_or rows t (record { row = row [] t; asked = []; asks = [] })

-- the facts that hold when t begins, by its row
abbrev pub begins_with : List Row → ℕ → Fact → Bool
begins_with rows t (IsSettled x) = mem x (row (plain rows) t).before
begins_with rows t (IsRequested k) = mem k (whole_row rows t).asked

-- the facts that hold when t has ended, by its row
abbrev pub ends_with : List Row → ℕ → Fact → Bool
ends_with rows t (IsSettled x) = mem x (row (plain rows) t).past
ends_with rows t (IsRequested k) = mem k (whole_row rows t).asks

-- the same, and that t has ended
abbrev pub once_ended : List Row → ℕ → Fact → Bool
once_ended rows t (IsSettled x) = nat_eq x t || mem x (row (plain rows) t).past
once_ended rows t (IsRequested k) = mem k (whole_row rows t).asks

-- the tokens that are requested with k: itself, each that is linked to it, and so on
abbrev pub linked : TaskGraph → ℕ → ℕ → Bool
linked g k j = through g (nat_eq k) j

-- how the child of t ends, if it is attached
abbrev pub child_end : TaskGraph → List Row → ℕ → ℕ → Option ChildEnd
child_end g rows t c = if mem c (attached g t) then Some (record { ends = (row (plain rows) c).ends; facts = ends_with rows c }) else None

-- what a leaf assumes, and which arguments of a WhenAny task may win it
pub record LeafAssumed : Type 0 where
  pub assumed : Assumed
  pub wins : ℕ → ℕ → Bool

-- a run so far contradicts nothing of it: the winner of a WhenAny task that has ended may win
pub record LeafAgrees (g : TaskGraph) (l : LeafAssumed) (v : List Bool) (h : List Event) : Type 0 where
  pub agrees : Agrees g l.assumed v h
  pub winners : (n x : ℕ) → winner_of (ending g v h n) ≡ Some x → l.wins n x ≡ true

-- a kind, of WhenAny with those arguments alone that may win
abbrev pub with_winners : (ℕ → Bool) → TaskKind → TaskKind
with_winners may_win (WhenAny args) = WhenAny (filter may_win args)
with_winners may_win kind = kind

-- the same of the t-th task
abbrev pub kind_left : TaskGraph → LeafAssumed → ℕ → TaskKind
kind_left g l t = with_winners (l.wins t) (kind g t)

-- how the subject of a task of this kind may have ended, behind WhenAny by the row of an argument that may win
abbrev pub subject_left : TaskGraph → LeafAssumed → List Row → ℕ → TaskKind → Final → Bool
subject_left g l rows t (Continues a) f = subject_ends (kind_left g l a) (options g t) a (plain rows) f
subject_left g l rows t kind f = false

-- what is known of the runs in which the body of t is read
abbrev pub token_view : TaskGraph → LeafAssumed → List Row → ℕ → Known
token_view g l rows t = record (view g l.assumed (plain rows) t) { subject = subject_left g l rows t (kind g t) }

-- how the body of t is read
abbrev pub reading : TaskGraph → LeafAssumed → List Row → ℕ → Reading
reading g l rows t = record { known = token_view g l rows t; linked = linked g; child = child_end g rows t }

-- the tokens that t knows when it begins
abbrev pub asked_of : List Row → ℕ → ℕ → Bool
asked_of rows t k = mem k (whole_row rows t).asked

-- what the paths of t have in common that end it so
abbrev pub known_at_end : TaskGraph → LeafAssumed → List Row → ℕ → Final → Option Knowledge
known_at_end g l rows t f = at_end f (reading g l rows t) (asked_of rows t) (body g t)

-- what the paths of p have in common where they start c
abbrev pub known_at_start : TaskGraph → LeafAssumed → List Row → ℕ → ℕ → Option Knowledge
known_at_start g l rows p c = at_start c (reading g l rows p) (asked_of rows p) (body g p)

-- the own token of t is among these
abbrev pub own_among : TaskGraph → ℕ → (ℕ → Bool) → Bool
own_among g t tokens = token_requested_by (task g t).token tokens

-- the row of t says that it may begin
abbrev pub may_run : List Row → ℕ → Bool
may_run rows t = (row (plain rows) t).runs

-- K1: a task that may begin has a row that runs. It doesn't begin where its own token is known to be requested
abbrev pub TokenRunsRule : TaskGraph → LeafAssumed → List Row → ℕ → TaskKind → Type 0
TokenRunsRule g l rows t Root = may_run rows t ≡ true
TokenRunsRule g l rows t (Continues a) =
    (f : Final) → has (row (plain rows) a).ends f ≡ true → allows (options g t) f ≡ true
    → own_among g t (λ k. mem k (whole_row rows a).asks) ≡ false → may_run rows t ≡ true
TokenRunsRule g l rows t Child =
    (p : ℕ) (known : Knowledge) → IsParent g p t → may_run rows p ≡ true → known_at_start g l rows p t ≡ Some known
    → own_among g t known.requested ≡ false → may_run rows t ≡ true
TokenRunsRule g l rows t kind = Unit {0}

-- a way in which a task with a body may end: its body does, and its paths that end so have this in common; or it is
-- canceled before it begins, as a root; as a child of a parent whose paths have this in common where they start it; as
-- a continuation before its antecedent has ended, after it, or since its options don't allow how that ended
pub data Way : Type 0 where
  ByBody : (final : Final) → (known : Knowledge) → Way
  RootDropped : Way
  ChildDropped : (parent : ℕ) → (known : Knowledge) → Way
  DroppedEarly : Way
  DroppedLate : Way
  NotAllowed : Way

-- how a task ends in this way
abbrev pub way_final : Way → Final
way_final (ByBody f known) = f
way_final way = Canceled

-- a task of this kind may end in this way
abbrev pub MayEndBy : TaskGraph → LeafAssumed → List Row → ℕ → TaskKind → Way → Type 0
MayEndBy g l rows t kind (ByBody f known) = (may_run rows t ≡ true) × (known_at_end g l rows t f ≡ Some known)
MayEndBy g l rows t Root RootDropped = is_loud g l.assumed t ≡ true
MayEndBy g l rows t Child (ChildDropped p known) =
    (is_loud g l.assumed t ≡ true) × IsParent g p t × (may_run rows p ≡ true) × (known_at_start g l rows p t ≡ Some known)
MayEndBy g l rows t (Continues a) DroppedEarly = (is_loud g l.assumed t ≡ true) × (lazy_cancellation (options g t) ≡ false)
MayEndBy g l rows t (Continues a) DroppedLate = (is_loud g l.assumed t ≡ true) × (may_end (plain rows) a ≡ true)
MayEndBy g l rows t (Continues a) NotAllowed = (f : Final) × (has (row (plain rows) a).ends f ≡ true) × (allows (options g t) f ≡ false)
MayEndBy g l rows t kind way = ⊥

-- a way that what is assumed leaves to t
abbrev pub IsWay : TaskGraph → LeafAssumed → List Row → ℕ → Way → Type 0
IsWay g l rows t way = (end_left l.assumed t (way_final way) ≡ true) × MayEndBy g l rows t (kind g t) way

-- the own token of t is requested, and with it those that are linked to it
abbrev pub OwnRequested : TaskGraph → ℕ → Fact → Type 0
OwnRequested g t (IsSettled x) = ⊥
OwnRequested g t (IsRequested j) = token_requested_by (task g t).token (λ k. linked g k j) ≡ true

-- a task that is settled when p begins
abbrev pub SettledBefore : List Row → ℕ → Fact → Type 0
SettledBefore rows p (IsSettled x) = mem x (row (plain rows) p).before ≡ true
SettledBefore rows p (IsRequested k) = ⊥

-- a token that the paths know
abbrev pub KnownThere : Knowledge → Fact → Type 0
KnownThere known (IsSettled x) = ⊥
KnownThere known (IsRequested k) = known.requested k ≡ true

-- what holds once a task of this kind may begin, besides what its row says
abbrev pub BeforeBegin : TaskGraph → List Row → ℕ → TaskKind → Fact → Type 0
BeforeBegin g rows t (Continues a) fact = once_ended rows a fact ≡ true
BeforeBegin g rows t Child fact = (p : ℕ) → IsParent g p t → SettledBefore rows p fact
BeforeBegin g rows t kind fact = ⊥

-- a fact that holds where t ended in this way
abbrev pub HoldsBy : TaskGraph → List Row → ℕ → TaskKind → Fact → Way → Type 0
HoldsBy g rows t kind fact (ByBody f known) =
    (begins_with rows t fact ≡ true) ⊎ BeforeBegin g rows t kind fact ⊎ (known.later fact ≡ true)
HoldsBy g rows t kind fact RootDropped = OwnRequested g t fact
HoldsBy g rows t kind fact (ChildDropped p known) = OwnRequested g t fact ⊎ SettledBefore rows p fact ⊎ KnownThere known fact
HoldsBy g rows t kind fact DroppedEarly = OwnRequested g t fact
HoldsBy g rows t kind fact DroppedLate = OwnRequested g t fact ⊎ BeforeBegin g rows t kind fact
HoldsBy g rows t kind fact NotAllowed = BeforeBegin g rows t kind fact

-- K2: how a task may end, its row has among its ends
abbrev pub TokenEndsRule : TaskGraph → LeafAssumed → List Row → ℕ → TaskKind → Type 0
TokenEndsRule g l rows t (WhenAll args) =
    (f : Final) → end_left l.assumed t f ≡ true → AllMayEnd (plain rows) args f → has (row (plain rows) t).ends f ≡ true
TokenEndsRule g l rows t (WhenAny args) =
    (x : ℕ) → end_left l.assumed t RanToCompletion ≡ true → mem x args ≡ true → may_end (plain rows) x ≡ true → has (row (plain rows) t).ends RanToCompletion ≡ true
TokenEndsRule g l rows t kind = (way : Way) → IsWay g l rows t way → has (row (plain rows) t).ends (way_final way) ≡ true

-- K3: what a row may say of when a task begins
abbrev pub BeginRule : TaskGraph → LeafAssumed → List Row → ℕ → TaskKind → Fact → Type 0
BeginRule g l rows t Root fact = ⊥
BeginRule g l rows t (Continues a) fact = once_ended rows a fact ≡ true
BeginRule g l rows t Child (IsSettled x) = (p : ℕ) → IsParent g p t → mem x (row (plain rows) p).before ≡ true
BeginRule g l rows t Child (IsRequested k) =
    (p : ℕ) (known : Knowledge) → IsParent g p t → known_at_start g l rows p t ≡ Some known → known.requested k ≡ true
BeginRule g l rows t kind fact = Unit {0}

-- a task below t is settled
abbrev pub SettledBelow : TaskGraph → ℕ → Fact → Type 0
SettledBelow g t (IsSettled x) = IsBelow g t x
SettledBelow g t (IsRequested k) = ⊥

-- K4 and, for WhenAll and WhenAny, K5: what a row may say of when a task has ended
abbrev pub EndRule : TaskGraph → LeafAssumed → List Row → ℕ → TaskKind → Fact → Type 0
EndRule g l rows t (WhenAll args) fact = (y : ℕ) × (mem y args ≡ true) × (once_ended rows y fact ≡ true)
EndRule g l rows t (WhenAny args) fact = (y : ℕ) → mem y args ≡ true → may_end (plain rows) y ≡ true → once_ended rows y fact ≡ true
EndRule g l rows t kind fact = SettledBelow g t fact ⊎ ((way : Way) → IsWay g l rows t way → HoldsBy g rows t kind fact way)

-- y alone may win a task of this kind
abbrev pub IsWonBy : TaskKind → ℕ → Type 0
IsWonBy (WhenAny args) y = (mem y args ≡ true) × ((x : ℕ) → mem x args ≡ true → x ≡ y)
IsWonBy kind y = ⊥

-- r, a task of this kind, continues a WhenAny task that y alone may win, and reads y's exception wherever y is faulted
abbrev pub ReadsWinner : TaskGraph → LeafAssumed → List Row → ℕ → ℕ → TaskKind → Type 0
ReadsWinner g l rows r y (Continues n) =
    IsWonBy (kind_left g l n) y
    × (allows (options g r) RanToCompletion ≡ true)
    × (is_loud g l.assumed r ≡ false)
    × MustObserve (record (token_view g l rows r) { subject = λ f. is_final f Faulted }) (body g r)
ReadsWinner g l rows r y kind = ⊥

-- the tasks of a chain from y on take its exception over, one after another, and the last one reads it, itself or
-- behind WhenAny
abbrev pub TokenLinks : TaskGraph → LeafAssumed → List Row → ℕ → List ℕ → Type 0
TokenLinks g l rows y [] = ⊥
TokenLinks g l rows y (x ∷ []) = Reads g l.assumed (plain rows) x y ⊎ ReadsWinner g l rows x y (kind g x)
TokenLinks g l rows y (x ∷ z ∷ zs) = TakesOver g x y × TokenLinks g l rows x (z ∷ zs)

-- K6: a chain is empty or leads from t to its reader
abbrev pub TokenChainRule : TaskGraph → LeafAssumed → List Row → ℕ → List ℕ → Type 0
TokenChainRule g l rows t [] = Unit {0}
TokenChainRule g l rows t (x ∷ chain) = TokenLinks g l rows t (x ∷ chain)

-- the rules for the row of one task: runs is K1, ends K2, begin K3, end K4 and K5, chain K6
pub record IsClosedWithTokens (g : TaskGraph) (l : LeafAssumed) (rows : List Row) (t : ℕ) : Type 0 where
  pub runs : TokenRunsRule g l rows t (kind g t)
  pub ends : TokenEndsRule g l rows t (kind_left g l t)
  pub begin : may_run rows t ≡ true → (fact : Fact) → begins_with rows t fact ≡ true → BeginRule g l rows t (kind g t) fact
  pub end : (fact : Fact) → ends_with rows t fact ≡ true → EndRule g l rows t (kind_left g l t) fact
  pub chain : TokenChainRule g l rows t (row (plain rows) t).chain

-- a leaf is closed
abbrev pub ClosedWithTokens : TaskGraph → LeafAssumed → List Row → Type 0
ClosedWithTokens g l rows = (t : ℕ) → is_task g t → IsClosedWithTokens g l rows t

-- a closed leaf proves a claim
abbrev pub ProvesWithTokens : TaskGraph → LeafAssumed → List Row → Property TaskId → Type 0
ProvesWithTokens g l rows (Observed t) =
    ((row (plain rows) t.0).chain ≡ [] → ⊥)
    ⊎ (has (row (plain rows) t.0).ends Faulted ≡ false)
    ⊎ (may_run rows t.0 ≡ false)
    ⊎ (at_throw (reading g l rows t.0) (asked_of rows t.0) (body g t.0) ≡ None)
    ⊎ NoneComplete g (plain rows)
ProvesWithTokens g l rows p = Proves g l.assumed (plain rows) p

-- where a WhenAll task has these ends left, an argument may have this one
abbrev pub keeps : (Final → Bool) → Final → Bool
keeps left RanToCompletion = true
keeps left Canceled = left Faulted || left Canceled
keeps left Faulted = left Faulted

-- what the ends that are left to t leave of others: where a continuation isn't canceled, its antecedent ended as its
-- options allow, and the arguments of a WhenAll task ended no worse than it
abbrev pub narrowed_by : TaskGraph → ℕ → TaskKind → (ℕ → Final → Bool) → ℕ → Final → Bool
narrowed_by g t (Continues a) left s f = left s f && (left t Canceled || (not (nat_eq a s) || allows (options g t) f))
narrowed_by g t (WhenAll args) left s f = left s f && (not (mem s args) || keeps (left t) f)
narrowed_by g t kind left s f = left s f

-- the same by the first n tasks, from the last of them to the first
abbrev pub narrowed_from : TaskGraph → ℕ → (ℕ → Final → Bool) → ℕ → Final → Bool
narrowed_from g zero left = left
narrowed_from g (suc t) left = narrowed_from g t (narrowed_by g t (kind g t) left)

-- what a leaf assumes where the ends that its splits left are narrowed by all tasks. Ends that are given aren't: a task
-- may be bound to end otherwise, while what is given of it is still true
abbrev pub narrowed : TaskGraph → LeafAssumed → LeafAssumed
narrowed g l = record l { assumed = record l.assumed { left = narrowed_from g (length g.tasks) l.assumed.left } }

-- each number is that of a token
abbrev pub AllTokens : TaskGraph → List ℕ → Type 0
AllTokens g [] = Unit {0}
AllTokens g (k ∷ ks) = is_token g k × AllTokens g ks

-- each token in the rows is the graph's
abbrev pub TokensOfRows : TaskGraph → List Row → Type 0
TokensOfRows g [] = Unit {0}
TokensOfRows g (r ∷ rows) = AllTokens g r.asked × AllTokens g r.asks × TokensOfRows g rows

-- on a branch of a split on an input, on how t ends, and on whether x wins n
abbrev pub input_split : LeafAssumed → ℕ → Bool → LeafAssumed
input_split l i value = record l { assumed = with_input l.assumed i value }

abbrev pub end_split : LeafAssumed → ℕ → Final → LeafAssumed
end_split l t f = record l { assumed = with_end l.assumed t f }

abbrev pub winner_split : LeafAssumed → ℕ → ℕ → Bool → LeafAssumed
winner_split l n x value = record l { wins = λ m y. l.wins m y && (not (nat_eq n m) || same value (nat_eq x y)) }

-- a task of this kind may have the winner x
abbrev pub MayHaveWinner : TaskKind → ℕ → Type 0
MayHaveWinner (WhenAny args) x = mem x args ≡ true
MayHaveWinner kind x = ⊥

-- what a certificate of such rows assumes for a claim, before its splits: each argument may win
abbrev pub assumed_with_tokens : TaskGraph → Claim → LeafAssumed
assumed_with_tokens g claim = record { assumed = assumed_for WithTokens g claim; wins = λ n x. true }
