-- The tree without a split, for all claims under the same given, in memory.
use Rattle.std.specs.Prelude.{◌≡◌, ◌↔◌, true, None, [], length, IsTrue}
use Rattle.tpl_model.specs.declared.ids.TaskId.{TaskId}
use Rattle.tpl_model.specs.declared.claim.Property.{Property}
use Rattle.tpl_model.specs.declared.claim.Property.TheVariants.{Observed}
use Rattle.tpl_model.specs.Graph.{TaskGraph}
use Rattle.tpl_model.specs.Certificate.{assumed}
use Rattle.tpl_model.specs.TokenRules.{LeafAssumed, narrowed}
use Rattle.tpl_laws.specs.TokenTests.{token_first_broken}
use Rattle.tpl_laws.specs.LeastRows.{least_rows}
use Rattle.tpl_checker.specs.Below.{AreBelow}
use Rattle.tpl_token_leaf.specs.Leaf.{leaf_assumed}
use Rattle.tpl_token_leaf.specs.Links.{AreLinks}
use Rattle.tpl_token_check.specs.declared.unsplit.Settled.{Settled}
use Rattle.tpl_token_check.specs.declared.unsplit.Unsplit.{Unsplit}
use Rattle.tpl_token_check.specs.Rows.{AreRows}

abbrev pub graph_under : Unsplit → TaskGraph
graph_under u = u.graph.now.graph

-- no row has a chain for the property: it speaks of no exception
abbrev pub HasNoChain : Property TaskId → Type 0
HasNoChain (Observed t) = ⊥
HasNoChain p = Unit {0}

-- the least rows of the leaf for the property, and whether they break no rule
pub record AreSettled (g : TaskGraph) (l : LeafAssumed) (p : Property TaskId) (s : Settled) : Type 0 where
  pub rows : AreRows g (least_rows g l p) s.rows
  pub closed : IsTrue s.is_closed ↔ (token_first_broken g l (least_rows g l p) 0 (length g.tasks) ≡ None)

-- what is read off the graph is its, what is given can be, and the rows are the least ones where it is
pub record IsUnsplit (u : Unsplit) : Type 0 where
  pub below : AreBelow (graph_under u) u.below.now
  pub linked : AreLinks (graph_under u) u.linked.now
  pub narrowed : leaf_assumed u.narrowed [] ≡ narrowed (graph_under u) (record { assumed = assumed (graph_under u) u.given.now; wins = λ n x. true })
  pub settled : (p : Property TaskId) → HasNoChain p → AreSettled (graph_under u) (leaf_assumed u.narrowed []) p u.settled
