-- A task graph with its names, and what its readers answer.
use Rattle.std.specs.Prelude.{ℕ, suc, zero, ◌++◌, Bool, Option, Some, None, List, [], ◌∷◌, flat_map}
use Rattle.tpl_model.specs.Statements.{Statement, Statements, Nothing, ◌⨾◌, Work, If, When}
use Rattle.tpl_model.specs.Graph.{TaskGraph, TaskKind, Continues, WhenAll, WhenAny}

-- the names of a graph as bytes, each list in the order of its numbers
pub record Names : Type 0 where
  pub inputs : List (List ℕ)
  pub tokens : List (List ℕ)
  pub tasks : List (List ℕ)
  pub labels : List (List ℕ)
  pub sites : List (List ℕ)

-- a graph with its names
pub record Named : Type 0 where
  pub graph : TaskGraph
  pub names : Names

-- the task that a continuation continues
abbrev pub antecedent_of : TaskKind → Option ℕ
antecedent_of (Continues a) = Some a
antecedent_of kind = None

-- the arguments of WhenAll and WhenAny
abbrev pub args_of : TaskKind → List ℕ
args_of (WhenAll args) = args
args_of (WhenAny args) = args
args_of kind = []

-- whether the jobs of a body may fail, in the order of its text
abbrev mutual
  pub may_fails : Statements → List Bool
  may_fails Nothing = []
  may_fails (s ⨾ rest) = may_fails_of s ++ may_fails rest

  pub may_fails_of : Statement → List Bool
  may_fails_of (Work site may_fail) = may_fail ∷ []
  may_fails_of (If i first second) = may_fails first ++ may_fails second
  may_fails_of (When f first second) = may_fails first ++ may_fails second
  may_fails_of s = []

-- whether the jobs of a graph may fail, in the order of the sites
abbrev pub all_may_fail : TaskGraph → List Bool
all_may_fail g = flat_map (λ t. may_fails t.body) g.tasks

-- this many numbers, from n on
abbrev pub numbers_from : ℕ → ℕ → List ℕ
numbers_from n zero = []
numbers_from n (suc more) = n ∷ numbers_from (suc n) more
