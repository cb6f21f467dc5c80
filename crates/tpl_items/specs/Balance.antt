-- The rule of a queue: what all passes together have to do with the tasks that the queue holds.
use Rattle.std.specs.Prelude.{◌≡◌, ℕ, ◌+◌, ◌*◌, ◌^◌, ◌≤◌, ◌-◌, List, [], ◌∷◌, ◌++◌}
use mathlib.Core.Option.{some}
use lib.ListN.{get_elem?}
use Rattle.tpl_items.specs.declared.rule.Tally.{Tally}
use Rattle.tpl_items.specs.Tally.{weigh, IsUnsplit}

-- the sum of f over the list
abbrev pub total : (Tally → ℕ) → List Tally → ℕ
total f [] = 0
total f (v ∷ vs) = f v + total f vs

-- each of them has the property
abbrev pub Each : (Tally → Type 0) → List Tally → Type 0
Each P views = (place : ℕ) (v : Tally) → get_elem? views place ≡ some v → P v

-- the share of a pass, where the whole is 2 ^ n
abbrev pub share : ℕ → Tally → ℕ
share n v = v.parts * 2 ^ (n - v.halvings)

-- a pass with no share has put and taken nothing
abbrev pub IsEmptyIfSpent : Tally → Type 0
IsEmptyIfSpent v = v.parts ≡ 0 → (v.put ≡ []) × (v.taken ≡ [])

-- a pass that was never split put what it took and then what the queue holds
abbrev pub IsInOrder : List ℕ → Tally → Type 0
IsInOrder tasks v = IsUnsplit v → v.put ≡ v.taken ++ tasks

-- The rule, of the tasks that the queue holds, the oldest first, and of what each pass knows. No pass was halved more than `most` times, and all shares add up to the whole. Each task was put as often as it was taken or is in the queue, however tasks are weighed
pub record IsBalanced (tasks : List ℕ) (views : List Tally) : Type 0 where
  pub most : ℕ
  pub halved : Each (λ v. v.halvings ≤ most) views
  pub whole : total (share most) views ≡ 2 ^ most
  pub spent : Each IsEmptyIfSpent views
  pub counted : (h : ℕ → ℕ) → total (λ v. weigh h v.put) views ≡ total (λ v. weigh h v.taken) views + weigh h tasks
  pub ordered : Each (IsInOrder tasks) views
