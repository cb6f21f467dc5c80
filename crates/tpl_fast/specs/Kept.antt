-- What is kept beside a run.
use Rattle.std.specs.Prelude.{◌≡◌, ℕ, ◌<◌, ◌≤◌, ◌&&◌, ◌||◌, not, is_some, Bool, true, false, List, [], ◌∷◌, length, take, slice_index_or}
use Rattle.tpl_model.specs.Graph.{kind, attached, is_task}
use Rattle.tpl_model.specs.Facts.{started, ending}
use Rattle.tpl_model.specs.Rules.{some_ended}
use Rattle.tpl_draft.specs.Named.{Named, args_of}
use Rattle.tpl_run.specs.Journal.{Journal}
use Rattle.tpl_fast.specs.declared.marks.Mark.{Mark}
use Rattle.tpl_fast.specs.Marks.{AreMarks}
use Rattle.tpl_fast.specs.Tokens.{AreAsked}

-- the task has ended
abbrev pub has_ended : Journal → ℕ → Bool
has_ended j t = is_some (ending j.graph j.inputs j.events t)

-- the child was not started, or has ended
abbrev pub is_over : Journal → ℕ → Bool
is_over j c = not (started j.graph j.inputs j.events c) || has_ended j c

-- each of these tasks passes the test
abbrev pub all_pass : (ℕ → Bool) → List ℕ → Bool
all_pass test [] = true
all_pass test (x ∷ xs) = test x && all_pass test xs

-- for each of n tasks a number: this many leading members of its list pass the test
pub record AreHeads (n : ℕ) (lists : ℕ → List ℕ) (test : ℕ → Bool) (places : List ℕ) : Type 0 where
  pub count : length places ≡ n
  pub within : (t : ℕ) → t < n → slice_index_or places t 0 ≤ length (lists t)
  pub each : (t : ℕ) → t < n → all_pass test (take (slice_index_or places t 0) (lists t)) ≡ true

-- for each task a number: this many leading arguments have ended
abbrev pub AreEnded : Journal → List ℕ → Type 0
AreEnded j places = AreHeads (length j.graph.tasks) (λ t. args_of (kind j.graph t)) (has_ended j) places

-- for each task a number: this many leading attached children have ended, or weren't started
abbrev pub AreOver : Journal → List ℕ → Type 0
AreOver j places = AreHeads (length j.graph.tasks) (attached j.graph) (is_over j) places

-- a task that is marked has an argument that has ended
pub record AreFound (j : Journal) (marks : List Bool) : Type 0 where
  pub count : length marks ≡ length j.graph.tasks
  pub each : (t : ℕ) → is_task j.graph t → slice_index_or marks t false ≡ true → some_ended (args_of (kind j.graph t)) (ending j.graph j.inputs j.events) ≡ true

-- the graph, the marks of its tasks, its tokens, and how far the arguments and the children of its tasks have ended
pub record IsKept (j : Journal) (n : Named) (list : List Mark) (itself closed : List Bool) (args_heads children_heads : List ℕ) (found_args : List Bool) : Type 0 where
  pub graph : n.graph ≡ j.graph
  pub names : n.names ≡ j.names
  pub marks : AreMarks (length j.graph.tasks) j.events list
  pub tokens : AreAsked j.graph j.inputs j.events itself closed
  pub ended : AreEnded j args_heads
  pub over : AreOver j children_heads
  pub found : AreFound j found_args
