-- What is made once for all claims of a graph.
use Rattle.std.specs.Prelude.{◌≡◌, []}
use Rattle.tpl_model.specs.Graph.{TaskGraph}
use Rattle.tpl_token_check.specs.declared.unsplit.Unsplit.{Unsplit}
use Rattle.tpl_token_check.specs.Unsplit.{IsUnsplit, graph_under}

-- the tree without a split, of this graph, where nothing is given
pub record IsAtHand (g : TaskGraph) (u : Unsplit) : Type 0 where
  pub unsplit : IsUnsplit u
  pub graph : graph_under u ≡ g
  pub given : u.given.now ≡ []
