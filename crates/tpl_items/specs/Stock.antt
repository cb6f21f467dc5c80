-- Where the items and jobs of a session are.
use Rattle.std.specs.Prelude.{◌≡◌, ℕ, ◌+◌, ◌<◌, ◌≤◌, Bool, true, List, [], Some, length, count_by, slice_get, slice_index_or, remove, replicate}
use Rattle.tpl_model.specs.declared.ids.TaskId.{TaskId}
use Rattle.tpl_model.specs.declared.status.Actor.{Actor}
use Rattle.tpl_model.specs.declared.status.Actor.TheVariants.{Worker, Outside}
use Rattle.tpl_model.specs.declared.ids.Worker.{Worker as WorkerNumber}

-- a stock: the items that weren't called; by task, whether its job wasn't put yet; the tasks whose jobs only one worker may begin, and those whose jobs the queue had no place for, the oldest first; and for how many tasks there is room in either list
pub record StockView (W : Type 0) : Type 0 where
  pub items : List W
  pub unput : List Bool
  pub kept : List (WorkerNumber × TaskId)
  pub shelf : List TaskId
  pub kept_room : ℕ
  pub shelf_room : ℕ

-- how many jobs weren't put yet
abbrev pub unput_count : List Bool → ℕ
unput_count unput = count_by (λ u. u) unput

-- there is a place in either list for each job that wasn't put yet
abbrev pub HasPlaces : {W : Type 0} → StockView W → Type 0
HasPlaces s = (length s.kept + unput_count s.unput ≤ s.kept_room) × (length s.shelf + unput_count s.unput ≤ s.shelf_room)

-- there is a place in either list for one job more than those that weren't put yet
abbrev pub HasPlace : {W : Type 0} → StockView W → Type 0
HasPlace s = (length s.kept + unput_count s.unput < s.kept_room) × (length s.shelf + unput_count s.unput < s.shelf_room)

-- a stock of these items for n tasks, none of whose jobs was put
abbrev pub new_stock : {W : Type 0} → ℕ → List W → StockView W
new_stock n items = record { items = items; unput = replicate n true; kept = []; shelf = []; kept_room = n; shelf_room = n }

-- the item was taken out of the list, and all others stay, in their order
abbrev pub Takes : {W : Type 0} → (old new : List W) → W → Type 0
Takes old new item = (place : ℕ) × (slice_get old place ≡ Some item) × (new ≡ remove old place)

-- none of the first n jobs was kept for this worker
abbrev pub AreOthers : List (WorkerNumber × TaskId) → ℕ → WorkerNumber → Type 0
AreOthers kept n worker = (k : ℕ) → k < n → (d : WorkerNumber × TaskId) → (slice_index_or kept k d).0 ≡ worker → ⊥

-- the oldest job that was kept for this actor, a worker, was taken out of the list
pub record TakesKept (old new : List (WorkerNumber × TaskId)) (actor : Actor) (task : TaskId) : Type 0 where
  pub worker : WorkerNumber
  pub is_worker : actor ≡ Worker worker
  pub place : ℕ
  pub kept : slice_get old place ≡ Some (worker, task)
  pub oldest : AreOthers old place worker
  pub rest : new ≡ remove old place

-- what is so of the worker, if the actor is one
abbrev pub IfWorker : Actor → (WorkerNumber → Type 0) → Type 0
IfWorker (Worker worker) fact = fact worker
IfWorker (Outside number) fact = Unit {0}
