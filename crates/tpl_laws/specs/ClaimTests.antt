-- What is computed of a claim, kind by kind: whether a leaf proves it, whether it is true of a run, and where in the run it was lost.
use Rattle.std.specs.Prelude.{◌≡◌, ℕ, suc, ◌↔◌, ◌&&◌, ◌||◌, not, Bool, true, if◌then◌else◌, Option, Some, None, List, [], ◌∷◌, length, is_some, max, nat_lt}
use Rattle.tpl_model.specs.declared.finals.Final.TheVariants.{Canceled, Faulted}
use Rattle.tpl_model.specs.Finals.{has}
use Rattle.tpl_model.specs.Members.{mem}
use Rattle.tpl_model.specs.Graph.{TaskGraph, kind}
use Rattle.tpl_model.specs.declared.event.Event.{Event}
use Rattle.tpl_model.specs.Facts.{Ending, begun, begun_by, ending}
use Rattle.tpl_model.specs.Rules.{final, label, seen}
use Rattle.tpl_model.specs.Valid.{IsGraph}
use Rattle.tpl_model.specs.declared.ids.TaskId.{TaskId}
use Rattle.tpl_model.specs.declared.claim.Property.{Property}
use Rattle.tpl_model.specs.declared.claim.Property.TheVariants.{Final as EndsIn, After, Observed, Never, Excludes, Runs}
use Rattle.tpl_model.specs.Certificate.{PlainRow, row, Assumed, begins_itself}
use Rattle.tpl_model.specs.Claims.{Claim, HoldsOf, Holds}
use Rattle.tpl_laws.specs.RowTests.{implies, each_end, may_throw, is_none, none_complete}
use Rattle.tpl_laws.specs.RunTests.{is_settled, is_complete, ends_within, is_given}

-- a closed leaf proves the claim
abbrev pub proves : TaskGraph → Assumed → List PlainRow → Property TaskId → Bool
proves g l rows (EndsIn t ends) = each_end (λ f. implies (has (row rows t.0).ends f) (has ends f))
proves g l rows (After a b) = not (row rows b.0).runs || mem a.0 (row rows b.0).before
proves g l rows (Observed t) =
    not (is_none (row rows t.0).chain)
    || (not (has (row rows t.0).ends Faulted) || (not (row rows t.0).runs || not (may_throw g l rows t.0)))
proves g l rows (Never t) = not (row rows t.0).runs
proves g l rows (Excludes a b) = not (row rows a.0).runs || not (row rows b.0).runs
proves g l rows (Runs t) =
    (nat_lt t.0 (length g.tasks) && (begins_itself (kind g t.0) && not (has (row rows t.0).ends Canceled))) || none_complete g rows

-- where b begins, a is settled in the list before
abbrev pub settled_at_begin : TaskGraph → List Bool → ℕ → ℕ → List Event → Bool
settled_at_begin g v a b [] = true
settled_at_begin g v a b (e ∷ h) = implies (begun_by e.act b) (is_settled g v h a) && settled_at_begin g v a b h

-- what a claim says is true of a run
abbrev pub holds_of : TaskGraph → List Bool → List Event → Property TaskId → Bool
holds_of g v h (EndsIn t ends) = ends_within ends (final g v h t.0)
holds_of g v h (After a b) = settled_at_begin g v a.0 b.0 h
holds_of g v h (Observed t) = implies (is_complete g v h) (implies (is_some (label g v h t.0)) (seen g v h t.0))
holds_of g v h (Never t) = not (is_some (begun h t.0))
holds_of g v h (Excludes a b) = not (is_some (begun h a.0) && is_some (begun h b.0))
holds_of g v h (Runs t) = implies (is_complete g v h) (is_some (begun h t.0))

-- a claim holds in a run
abbrev pub holds : TaskGraph → Claim → List Bool → List Event → Bool
holds g claim v h = implies (is_given g v h claim.given) (holds_of g v h claim.body)

-- the place at which a task began
abbrev pub began_at : List Event → ℕ → Option ℕ
began_at [] t = None
began_at (e ∷ h) t = if begun_by e.act t then Some (suc (length h)) else began_at h t

-- the place at which a task ended
abbrev pub place_of : Option Ending → Option ℕ
place_of None = None
place_of (Some e) = Some e.place

-- the later of two places, if there are both
abbrev pub later_of : Option ℕ → Option ℕ → Option ℕ
later_of (Some p) (Some q) = Some (max p q)
later_of p q = None

-- where a property that isn't true of the run was lost. A run is complete from its place `complete` on
abbrev pub lost_at : TaskGraph → List Bool → List Event → Option ℕ → Property TaskId → Option ℕ
lost_at g v h complete (EndsIn t ends) = place_of (ending g v h t.0)
lost_at g v h complete (After a b) = began_at h b.0
lost_at g v h complete (Observed t) = complete
lost_at g v h complete (Never t) = began_at h t.0
lost_at g v h complete (Excludes a b) = later_of (began_at h a.0) (began_at h b.0)
lost_at g v h complete (Runs t) = complete

-- the test of what a claim says passes just where it is true of the run
abbrev pub HoldsOfIsRight : Type 0
HoldsOfIsRight =
    (g : TaskGraph) (v : List Bool) (h : List Event) (p : Property TaskId) → IsGraph g → (holds_of g v h p ≡ true) ↔ HoldsOf g v h p

-- the test of a claim passes just where it holds in the run
abbrev pub HoldsIsRight : Type 0
HoldsIsRight = (g : TaskGraph) (claim : Claim) (v : List Bool) (h : List Event) → IsGraph g → (holds g claim v h ≡ true) ↔ Holds g claim v h
