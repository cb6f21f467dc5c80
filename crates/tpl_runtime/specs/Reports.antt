-- What a session leaves.
use Rattle.std.specs.Prelude.{◌≡◌, ◌⊎◌, ◌↔◌, ℕ, zero, suc, ◌+◌, ◌<◌, Bool, true, ◌&&◌, not, if◌then◌else◌, List, [], ◌∷◌, ◌++◌, Option, All, count_by, length, map, reverse, nat_eq, is_some}
use Rattle.tpl_model.specs.declared.status.Actor.{Actor}
use Rattle.tpl_model.specs.declared.status.Label.{Label}
use Rattle.tpl_model.specs.declared.status.Status.{Status}
use Rattle.tpl_model.specs.declared.rule_set.RuleSet.{RuleSet}
use Rattle.tpl_model.specs.Certificate.{Tree}
use Rattle.tpl_model.specs.Claims.{Claim, Holds}
use Rattle.tpl_model.specs.declared.event.Event.{Event}
use Rattle.tpl_model.specs.Graph.{TaskGraph}
use Rattle.tpl_model.specs.Rules.{Run, Complete, carried, label, seen, status}
use Rattle.tpl_laws.specs.Soundness.{Each}
use Rattle.tpl_laws.specs.ByRules.{AcceptsBy}
use Rattle.tpl_draft.specs.Ids.{task_number}
use Rattle.tpl_draft.specs.Named.{Named}
use Rattle.tpl_machine.specs.Journal.{Journal, named}
use Rattle.tpl_items.specs.declared.receipt.Receipt.{Receipt}
use Rattle.tpl_hall.specs.Answers.{answers, shown}
use Rattle.tpl_hall.specs.Closes.{AllOwn, AllLast}
use Rattle.tpl_hall.specs.Lists.{all_seated, are_seated}
use Rattle.tpl_model.specs.Journal.{IsSeat}
use Rattle.tpl_hall.specs.Views.{SeatView}
use Rattle.tpl_runtime.specs.declared.closing.CloseFault.{CloseFault}
use Rattle.tpl_runtime.specs.declared.closing.CloseWhy.{CloseWhy}
use Rattle.tpl_runtime.specs.declared.closing.CloseWhy.TheVariants.{Lost, SeatsMissing, Mismatch, Memory}
use Rattle.tpl_runtime.specs.declared.closing.Report.{Report}
use Rattle.tpl_runtime.specs.declared.tables.Told.{Told}

-- f of each number below n, in order
abbrev pub each_below : {A : Type 0} → (ℕ → A) → ℕ → List A
each_below f zero = []
each_below f (suc n) = each_below f n ++ f n ∷ []

-- the numbers below n that pass the test, in order
abbrev pub those_below : (ℕ → Bool) → ℕ → List ℕ
those_below test zero = []
those_below test (suc n) = those_below test n ++ (if test n then n ∷ [] else [])

-- the task's own body threw, and nobody has observed it
abbrev pub is_unseen : TaskGraph → List Bool → List Event → ℕ → Bool
is_unseen g v h t = is_some (label g v h t) && not (seen g v h t)

-- the two lists together have n members, and each site below n once: they are these sites
pub record AreOnce (n : ℕ) (first second : List ℕ) : Type 0 where
  pub once : (site : ℕ) → site < n → count_by (nat_eq site) first + count_by (nat_eq site) second ≡ 1
  pub many : length first + length second ≡ n

-- what a session of this graph with these inputs has kept whole: a run, the first event first; a receipt for each of its Worked events, in their order; and one receipt or one item of each site, and no others
pub record IsWhole {K : Type 0} (n : Named) (v : List Bool) (journal : List Event) (receipts : List (Receipt K)) (sites : List ℕ) : Type 0 where
  pub run : Run n.graph v (reverse journal)
  pub matched : map shown receipts ≡ answers n.graph v (reverse journal)
  pub once : AreOnce (length n.names.sites) (map (λ r. r.site.0) receipts) sites

-- what is told of a run: of each task where it stands, what its own body threw, and whose exceptions it carries; the tasks whose exception nobody has observed; and whether the run is complete
pub record ToldView : Type 0 where
  pub statuses : List Status
  pub labels : List (Option Label)
  pub carried : List (List ℕ)
  pub unseen : List ℕ
  pub complete : Bool

abbrev pub told_of : Told → ToldView
told_of t = record {
  statuses = t.statuses.items;
  labels = t.labels.items;
  carried = map (λ c. map task_number c.items) t.carried.items;
  unseen = map task_number t.unseen.items;
  complete = t.complete;
}

abbrev pub told_in : {K W : Type 0} → Report K W → ToldView
told_in r = told_of (record { statuses = r.statuses; labels = r.labels; carried = r.carried; unseen = r.unseen; complete = r.complete })

-- what is told is so, the newest event first
pub record IsTold (g : TaskGraph) (v : List Bool) (h : List Event) (said : ToldView) : Type 0 where
  pub statuses : said.statuses ≡ each_below (status g v h) (length g.tasks)
  pub labels : said.labels ≡ each_below (label g v h) (length g.tasks)
  pub carried : said.carried ≡ each_below (carried g v h) (length g.tasks)
  pub unseen : said.unseen ≡ those_below (is_unseen g v h) (length g.tasks)
  pub complete : (said.complete ≡ true) ↔ Complete g v h

-- What a session of this graph with these inputs leaves where it is closed well: it has kept all, and each claim of a certificate that is accepted, by whichever rules, holds. The list of each seat that was handed in is what its actor did, what was last reported to it is true there, and nobody else did anything. What is told of the run is so.
pub record IsClosed {K : Type 0} (n : Named) (v : List Bool) (handed : List SeatView) (journal : List Event) (receipts : List (Receipt K)) (sites : List ℕ) (said : ToldView) : Type 0 where
  pub whole : IsWhole n v journal receipts sites
  pub claims : (rules : RuleSet) (claims : List Claim) (certificate : List Tree) → AcceptsBy rules n.graph claims certificate → Each (λ claim. Holds n.graph claim v (reverse journal)) claims
  pub own : AllOwn handed journal
  pub last : AllLast n.graph v handed journal
  pub seats : All (λ e. IsSeat e.actor) journal
  pub seated : all_seated journal (map (λ s. s.actor) handed) ≡ true
  pub told : IsTold n.graph v (reverse journal) said

-- the report is what a session leaves that is closed well
abbrev pub ClosesWell : {K W : Type 0} → Named → List Bool → (W → ℕ) → List SeatView → Report K W → Type 0
ClosesWell n v site handed r = IsClosed n v handed r.journal.items r.receipts.items (map site r.items.items) (told_in r)

-- there are as many seats as were made, and each actor that was seated has one
abbrev pub AreAllSeats : List Actor → List SeatView → Type 0
AreAllSeats made handed = (length handed ≡ length made) × (are_seated made (map (λ s. s.actor) handed) ≡ true)

-- what lies under a session's lock is whole: the run is of this graph with these inputs, and each site of it has one receipt or one item
pub record IsKept (j : Journal) (n : Named) (v : List Bool) (receipts sites : List ℕ) : Type 0 where
  pub graph : named j ≡ n
  pub inputs : j.inputs ≡ v
  pub once : AreOnce (length n.names.sites) receipts sites

-- what was handed in is what was done: the list of each seat is what its actor did, nobody else did anything, each actor that was seated has a seat, and what was last reported to each is true
pub record Agrees (g : TaskGraph) (v : List Bool) (made : List Actor) (handed : List SeatView) (journal : List Event) : Type 0 where
  pub own : AllOwn handed journal
  pub seated : all_seated journal (map (λ s. s.actor) handed) ≡ true
  pub seats : All (λ e. IsSeat e.actor) journal
  pub all : are_seated made (map (λ s. s.actor) handed) ≡ true
  pub last : AllLast g v handed journal

-- how a close is refused: Lost where what the session kept isn't whole, else SeatsMissing where there are not as many seats as were made, else Mismatch where what was handed in isn't what was done
abbrev pub RefusesClose : CloseWhy → (kept : Type 0) → (handed made : ℕ) → (agrees : Type 0) → Type 0
RefusesClose Lost kept handed made agrees = kept → ⊥
RefusesClose SeatsMissing kept handed made agrees = kept × (handed ≡ made → ⊥)
RefusesClose Mismatch kept handed made agrees = kept × (handed ≡ made) × (agrees → ⊥)
RefusesClose Memory kept handed made agrees = kept × (handed ≡ made)

-- what comes back from a close that was refused: all that the session kept, but where it was lost before
abbrev pub GivesBack : {K W : Type 0} → Named → List Bool → (W → ℕ) → CloseFault K W → Type 0
GivesBack n v site e = (e.why ≡ Lost) ⊎ IsWhole n v e.journal.items e.receipts.items (map site e.items.items)
