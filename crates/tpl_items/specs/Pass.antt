-- What contracts see of a queue and of its passes.
use Rattle.std.specs.Prelude.{ℕ}
use Rattle.atomic_table.specs.Seated.{TableId}
use Rattle.tpl_items.specs.declared.rule.Tally.{Tally}

-- a queue: its name, which no other queue has, and how many jobs it has places for
pub record QueueView : Type 0 where
  pub id : TableId
  pub capacity : ℕ

-- a pass: the name of its queue, and its tally
pub record PassView : Type 0 where
  pub queue : TableId
  pub tally : Tally
