-- What a report says of a run.
use Rattle.std.specs.Prelude.{◌≡◌, ℕ, Bool, List, length, map, reverse}
use Rattle.tpl_model.specs.Rules.{Run}
use Rattle.tpl_draft.specs.Named.{Named}
use Rattle.tpl_journal.specs.Carried.{numbers, numbers_of}
use Rattle.tpl_journal.specs.ReportText.{ReportValue}
use Rattle.tpl_hall.specs.Answers.{answers}
use Rattle.tpl_runtime.specs.Reports.{AreOnce, ToldView, IsTold}
use Rattle.tpl_runtime.specs.declared.closing.Report.{Report}

-- the values of a session's report that are written
abbrev pub told : {K W : Type 0} → Report K W → ReportValue
told r = record {
  complete = r.complete;
  statuses = r.statuses.items;
  labels = r.labels.items;
  carried = map numbers_of r.carried.items;
  unseen = numbers r.unseen.items;
  called = length r.receipts.items;
  returned = length r.items.items;
  journal = r.journal.items;
}

-- what a report says of the tasks
abbrev pub tasks_of : ReportValue → ToldView
tasks_of r = record { statuses = r.statuses; labels = r.labels; carried = r.carried; unseen = r.unseen; complete = r.complete }

-- The report is of a run of this graph with these inputs: its journal is one, the first event first, and
-- the rest is true of it. Each work statement was called, as the journal says, or its item came back.
pub record IsReport (n : Named) (inputs : List Bool) (r : ReportValue) : Type 0 where
  pub run : Run n.graph inputs (reverse r.journal)
  pub told : IsTold n.graph inputs (reverse r.journal) (tasks_of r)
  pub called : r.called ≡ length (answers n.graph inputs (reverse r.journal))
  pub back : List ℕ
  pub returned : r.returned ≡ length back
  pub once : AreOnce (length n.names.sites) (map (λ a. a.0) (answers n.graph inputs (reverse r.journal))) back
