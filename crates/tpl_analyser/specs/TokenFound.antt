-- A tree that is found for a claim by the rules that know of tokens and of winners.
use Rattle.std.specs.Prelude.{ℕ, ◌≤◌}
use Rattle.tpl_model.specs.Graph.{TaskGraph}
use Rattle.tpl_model.specs.declared.ids.TaskId.{TaskId}
use Rattle.tpl_model.specs.declared.claim.Property.{Property}
use Rattle.tpl_model.specs.Certificate.{Tree}
use Rattle.tpl_model.specs.TokenRules.{LeafAssumed}
use Rattle.tpl_laws.specs.TokenTrees.{AcceptsTokenTree}
use Rattle.tpl_trees.specs.Heights.{height, HasShortChains}
use Rattle.tpl_analyser.specs.declared.form.Form.{Form}
use Rattle.tpl_analyser.specs.Slim.{HasLeavesOf}

-- the tree is accepted for the property under what is assumed, has at most n splits on each path, no chain past the limit,
-- and leaves of this form
pub record IsFoundWithTokens (g : TaskGraph) (p : Property TaskId) (form : Form) (l : LeafAssumed) (n : ℕ) (tree : Tree) : Type 0 where
  pub accepted : AcceptsTokenTree g p l tree
  pub splits : height tree ≤ n
  pub chains : HasShortChains tree
  pub of_form : HasLeavesOf form tree
