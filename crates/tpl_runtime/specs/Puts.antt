-- Where the job of a task that is ready goes.
use Rattle.std.specs.Prelude.{◌≡◌, ◌⊎◌, true, false, ◌∷◌, [], ◌++◌, slice_index_or, slice_set}
use Rattle.tpl_model.specs.declared.ids.TaskId.{TaskId}
use Rattle.tpl_model.specs.declared.ids.Worker.{Worker}
use Rattle.tpl_model.specs.declared.status.Status.TheVariants.{WaitingToRun}
use Rattle.tpl_model.specs.Graph.{is_task}
use Rattle.tpl_model.specs.Rules.{status}
use Rattle.tpl_machine.specs.Journal.{Journal}
use Rattle.tpl_items.specs.declared.rule.Tally.{Tally}
use Rattle.tpl_items.specs.Tally.{after_put}
use Rattle.tpl_items.specs.Stock.{StockView}

-- the task is ready to run, and its job wasn't put yet
abbrev pub IsReady : {W : Type 0} → Journal → StockView W → TaskId → Type 0
IsReady j s t = is_task j.graph t.0 × (status j.graph j.inputs j.events t.0 ≡ WaitingToRun) × (slice_index_or s.unput t.0 false ≡ true)

-- the job went through the queue, was kept for a worker, or was shelved
abbrev pub Goes : {W : Type 0} → TaskId → (tally tally' : Tally) → (s s' : StockView W) → Type 0
Goes t tally tally' s s' =
    ((tally' ≡ after_put tally t.0) × (s' ≡ s))
    ⊎ (((tally' ≡ tally) × (w : Worker) × (s' ≡ record s { kept = s.kept ++ (w, t) ∷ [] }))
    ⊎ ((tally' ≡ tally) × (s' ≡ record s { shelf = s.shelf ++ t ∷ [] })))

-- the job of a task that is ready and wasn't put yet goes somewhere, and counts as put; else nothing changes
abbrev pub Puts : {W : Type 0} → Journal → TaskId → (tally tally' : Tally) → (s s' : StockView W) → Type 0
Puts j t tally tally' s s' =
    (IsReady j s t × Goes t tally tally' (record s { unput = slice_set s.unput t.0 false }) s')
    ⊎ ((IsReady j s t → ⊥) × (tally' ≡ tally) × (s' ≡ s))
