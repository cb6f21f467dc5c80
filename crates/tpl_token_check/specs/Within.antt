-- All tasks and tokens of a graph, in memory.
use Rattle.std.specs.Prelude.{◌≡◌, ℕ, ◌≤◌, length, nat_lt}
use Rattle.tpl_model.specs.Members.{mem}
use Rattle.tpl_model.specs.Graph.{TaskGraph}
use Rattle.tpl_model.specs.declared.limits.TheConstants.{MOST_TASKS, MOST_TOKENS}
use Rattle.tpl_paths.specs.TokenSet.{has_token}
use Rattle.tpl_paths.specs.declared.facts.Facts.{Facts}

-- the facts are all tasks and tokens of the graph, whose sets have room for them
pub record IsAll (g : TaskGraph) (all : Facts) : Type 0 where
  pub tasks : (x : ℕ) → mem x all.tasks ≡ nat_lt x (length g.tasks)
  pub tokens : (k : ℕ) → has_token all.tokens k ≡ nat_lt k (length g.tokens)
  pub few_tasks : length g.tasks ≤ MOST_TASKS
  pub few_tokens : length g.tokens ≤ MOST_TOKENS
