-- What one pass of a queue knows.
use Rattle.std.specs.Prelude.{◌≡◌, ℕ, ◌+◌, ◌*◌, ◌^◌, ◌<◌, ◌==◌, if◌then◌else◌, List, [], ◌∷◌, ◌++◌, length}
use Rattle.tpl_items.specs.declared.rule.Tally.{Tally}

-- the weights of the tasks, added up
abbrev pub weigh : (ℕ → ℕ) → List ℕ → ℕ
weigh h [] = 0
weigh h (t ∷ ts) = h t + weigh h ts

-- how often a task stands in the list
abbrev pub times : ℕ → List ℕ → ℕ
times t ts = weigh (λ u. if u == t then 1 else 0) ts

abbrev pub tally : ℕ → ℕ → List ℕ → List ℕ → Tally
tally parts halvings put taken = record { parts = parts; halvings = halvings; put = put; taken = taken }

-- the whole pass of a queue that is new
abbrev pub new_tally : Tally
new_tally = tally 1 0 [] []

-- once a job of the task t was put
abbrev pub after_put : Tally → ℕ → Tally
after_put v t = tally v.parts v.halvings (v.put ++ t ∷ []) v.taken

-- once a job of the task t was taken
abbrev pub after_take : Tally → ℕ → Tally
after_take v t = tally v.parts v.halvings v.put (v.taken ++ t ∷ [])

-- the half that keeps the lists
abbrev pub first_half : Tally → Tally
first_half v = tally v.parts (v.halvings + 1) v.put v.taken

-- the other half
abbrev pub second_half : Tally → Tally
second_half v = tally v.parts (v.halvings + 1) [] []

-- the shares of two passes are added, and their lists appended
abbrev pub both : Tally → Tally → Tally
both v w = tally (v.parts * 2 ^ w.halvings + w.parts * 2 ^ v.halvings) (v.halvings + w.halvings) (v.put ++ w.put) (v.taken ++ w.taken)

-- it is the whole pass
abbrev pub IsWhole : Tally → Type 0
IsWhole v = v.parts ≡ 2 ^ v.halvings

-- it is the whole pass, and was never split
abbrev pub IsUnsplit : Tally → Type 0
IsUnsplit v = (v.parts ≡ 1) × (v.halvings ≡ 0)

-- What a pass knows of the tasks that the queue holds, the oldest first. The whole pass put each task as often as it took it or as it is among these, however tasks are weighed; and as long as it was not split, it put those that it took and then these, in this order
pub record Accounts (v : Tally) (tasks : List ℕ) : Type 0 where
  pub counted : IsWhole v → (h : ℕ → ℕ) → weigh h v.put ≡ weigh h v.taken + weigh h tasks
  pub ordered : IsUnsplit v → v.put ≡ v.taken ++ tasks

-- at one moment of the call the queue held n tasks, for which the pass accounts
abbrev pub HeldAtOnce : ℕ → Tally → Type 0
HeldAtOnce n v = (tasks : List ℕ) × (length tasks ≡ n) × Accounts v tasks

-- at one moment of the call the queue held fewer than n tasks, for which the pass accounts
abbrev pub HeldFewer : ℕ → Tally → Type 0
HeldFewer n v = (tasks : List ℕ) × (length tasks < n) × Accounts v tasks

-- at one moment of the call the queue held fewer tasks than a witness says that it has places, and the pass accounts for them
abbrev pub HadRoom : List ℕ → Tally → Type 0
HadRoom told v = (n : ℕ) → told ≡ n ∷ [] → HeldFewer n v

-- at one moment of the call the task t was the oldest in the queue, and the pass accounts for it and those behind it
abbrev pub WasOldest : ℕ → Tally → Type 0
WasOldest t v = (behind : List ℕ) × Accounts v (t ∷ behind)
