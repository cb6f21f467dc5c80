-- The edges of a graph.
use Rattle.std.specs.Prelude.{ℕ, zero, suc, Bool, Option, Some, None, List, [], ◌∷◌, ◌++◌, length, map, nat_lt, if◌then◌else◌}
use Rattle.std.specs.Option.{option_to_list}
use Rattle.tpl_model.specs.Members.{mem}
use Rattle.tpl_model.specs.Statements.{Statement, Statements, Nothing, ◌⨾◌, Start, Cancel as Request, If, When}
use Rattle.tpl_model.specs.Graph.{TaskGraph, task, kind, body, sources}
use Rattle.tpl_draft.specs.Named.{antecedent_of, args_of}
use Rattle.tpl_draw.specs.declared.edge.Tie.{Tie}
use Rattle.tpl_draw.specs.declared.edge.Tie.TheVariants.{After, Argument, Child, Cancel, Own, Link}
use Rattle.tpl_draw.specs.declared.edge.Edge.{Edge}
use Rattle.tpl_draw.specs.declared.edges.TheConstants.{MOST_OWNERS}
use Rattle.tpl_draw.specs.Below.{below}

-- an edge of this sort, from one number to another
abbrev pub edge : Tie → ℕ → ℕ → Edge
edge tie from to = record { tie = tie; from = from; to = to }

-- an edge from each of these tasks or tokens to one
abbrev pub from_each : Tie → List ℕ → ℕ → List Edge
from_each tie xs to = map (λ x. edge tie x to) xs

-- what a body does to other tasks and to tokens, in the order of its text: it starts children and requests tokens
abbrev mutual
  pub acts : ℕ → Statements → List Edge
  acts t Nothing = []
  acts t (s ⨾ rest) = acts_of t s ++ acts t rest

  pub acts_of : ℕ → Statement → List Edge
  acts_of t (Start c) = edge Child t c ∷ []
  acts_of t (Request k) = edge Cancel t k ∷ []
  acts_of t (If i first second) = acts t first ++ acts t second
  acts_of t (When f first second) = acts t first ++ acts t second
  acts_of t s = []

-- the token is the task's own
abbrev pub owns : TaskGraph → ℕ → ℕ → Bool
owns g k t = mem k (option_to_list (task g t).token)

-- how many of the first n tasks have the token as their own
abbrev pub owners : TaskGraph → ℕ → ℕ → ℕ
owners g k zero = 0
owners g k (suc n) = if owns g k n then suc (owners g k n) else owners g k n

-- more than MOST_OWNERS tasks have the token as their own: it stands at each of them, and not at an edge
abbrev pub is_crowded : TaskGraph → ℕ → Bool
is_crowded g k = nat_lt MOST_OWNERS (owners g k (length g.tasks))

-- a task's own token, where an edge leads to the task
abbrev pub edge_token : TaskGraph → Option ℕ → Option ℕ
edge_token g None = None
edge_token g (Some k) = if is_crowded g k then None else Some k

-- the edges of a task: of its own token, what it continues, what it waits for, and what its body does
abbrev pub task_edges : TaskGraph → ℕ → List Edge
task_edges g t =
    from_each Own (option_to_list (edge_token g (task g t).token)) t
    ++ from_each After (option_to_list (antecedent_of (kind g t))) t
    ++ from_each Argument (args_of (kind g t)) t
    ++ acts t (body g t)

-- the edges of a token: one from each token to which it is linked
abbrev pub token_edges : TaskGraph → ℕ → List Edge
token_edges g k = from_each Link (sources g k) k

-- the edges of the tokens, then those of the tasks, each in declared order
abbrev pub edges : TaskGraph → List Edge
edges g = below (token_edges g) (length g.tokens) ++ below (task_edges g) (length g.tasks)
