-- What the rules with tokens say of the tasks of a leaf in memory.
use Rattle.std.specs.Prelude.{ℕ, ◌&&◌, ◌||◌, Bool}
use Rattle.tpl_model.specs.declared.finals.Final.{Final}
use Rattle.tpl_model.specs.Knowledge.{Fact}
use Rattle.tpl_model.specs.Graph.{TaskKind, kind}
use Rattle.tpl_model.specs.Certificate.{end_left, is_loud}
use Rattle.tpl_model.specs.TokenRules.{Way, ByBody, ChildDropped, begins_with, kind_left, known_at_end, known_at_start, may_run}
use Rattle.tpl_laws.specs.RowTests.{implies}
use Rattle.tpl_laws.specs.TokenTests.{before_begin, begin_by, each_begin, each_drop, each_way, end_by, holds_by, if_known, settled_below, token_runs_by}
use Rattle.tpl_laws.specs.LeastRows.{has_to_end_so}
use Rattle.tpl_token_leaf.specs.declared.leaf.Leaf.{Leaf}
use Rattle.tpl_token_leaf.specs.declared.ways.Ways.{Ways}
use Rattle.tpl_token_leaf.specs.Leaf.{graph_of, assumed_in, rows_in}
use Rattle.tpl_token_leaf.specs.Ways.{AreWays}

-- the kind of a task, of WhenAny with those arguments alone that may win
abbrev pub kind_left_in : Leaf → ℕ → TaskKind
kind_left_in leaf t = kind_left (graph_of leaf) (assumed_in leaf) t

-- K1: a task of this kind has a row that runs, if it may begin
abbrev pub runs_as : Leaf → ℕ → TaskKind → Bool
runs_as leaf t k = token_runs_by (graph_of leaf) (assumed_in leaf) (rows_in leaf) t k

-- K2: a task of this kind may end so
abbrev pub has_to_end_as : Leaf → ℕ → TaskKind → Final → Bool
has_to_end_as leaf t k f = has_to_end_so (graph_of leaf) (assumed_in leaf) (rows_in leaf) t k f

-- K3: what may be said of when a task of this kind begins
abbrev pub begins_as : Leaf → ℕ → TaskKind → Fact → Bool
begins_as leaf t k fact = begin_by (graph_of leaf) (assumed_in leaf) (rows_in leaf) t k fact

-- no more is said of it
abbrev pub begin_holds : Leaf → ℕ → TaskKind → Bool
begin_holds leaf t k = each_begin (rows_in leaf) t (begins_as leaf t k)

-- K4 and K5: what may be said of when it has ended
abbrev pub ends_as : Leaf → ℕ → TaskKind → Fact → Bool
ends_as leaf t k fact = end_by (graph_of leaf) (assumed_in leaf) (rows_in leaf) t k fact

-- what holds where a task of this kind ended in a way
abbrev pub holds_as : Leaf → ℕ → TaskKind → Fact → Way → Bool
holds_as leaf t k = holds_by (graph_of leaf) (rows_in leaf) t k

-- what may be said of the end of a task of this kind that ends by its ways
abbrev pub ends_by_ways : Leaf → ℕ → TaskKind → Fact → Bool
ends_by_ways leaf t k fact = settled_below (graph_of leaf) t fact || each_way (graph_of leaf) (assumed_in leaf) (rows_in leaf) t (holds_as leaf t k fact)

-- what holds once a task has begun
abbrev pub has_begun_with : Leaf → ℕ → Fact → Bool
has_begun_with leaf t fact = begins_with (rows_in leaf) t fact || before_begin (graph_of leaf) (rows_in leaf) t (kind (graph_of leaf) t) fact

-- the ways to end that are left to a task
abbrev pub AreLeft : Leaf → ℕ → Ways → Type 0
AreLeft leaf t ways = AreWays (each_way (graph_of leaf) (assumed_in leaf) (rows_in leaf) t) (holds_as leaf t (kind (graph_of leaf) t)) ways

-- each way in which the body of a task may end it so passes the test
abbrev pub each_end_so : Leaf → ℕ → Final → (Way → Bool) → Bool
each_end_so leaf t f test = implies (end_left (assumed_in leaf).assumed t f) (if_known (known_at_end (graph_of leaf) (assumed_in leaf) (rows_in leaf) t f) (λ known. test (ByBody f known)))

-- each way in which a child of p may be canceled before it begins does
abbrev pub each_drop_under : Leaf → ℕ → ℕ → (Way → Bool) → Bool
each_drop_under leaf p t test =
    implies (is_loud (graph_of leaf) (assumed_in leaf).assumed t && may_run (rows_in leaf) p)
    (if_known (known_at_start (graph_of leaf) (assumed_in leaf) (rows_in leaf) p t) (λ known. test (ChildDropped p known)))

-- the ways in which a task of this kind may be canceled before it begins
abbrev pub AreDrops : Leaf → ℕ → TaskKind → Ways → Type 0
AreDrops leaf t k ways = AreWays (each_drop (graph_of leaf) (assumed_in leaf) (rows_in leaf) t k) (holds_as leaf t k) ways
