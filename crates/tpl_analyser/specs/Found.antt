-- A tree that is found for a claim.
use Rattle.std.specs.Prelude.{ℕ, ◌≤◌}
use Rattle.tpl_model.specs.Graph.{TaskGraph}
use Rattle.tpl_model.specs.declared.ids.TaskId.{TaskId}
use Rattle.tpl_model.specs.declared.claim.Property.{Property}
use Rattle.tpl_model.specs.Certificate.{Tree, Assumed, AcceptsTree}
use Rattle.tpl_trees.specs.Heights.{height, HasShortChains}
use Rattle.tpl_analyser.specs.declared.form.Form.{Form}
use Rattle.tpl_analyser.specs.Slim.{IsOfForm}

-- the tree is accepted for the property under what is assumed, has at most n splits on each path, no chain past the limit, and is of this form
pub record IsFound (g : TaskGraph) (p : Property TaskId) (form : Form) (l : Assumed) (n : ℕ) (tree : Tree) : Type 0 where
  pub accepted : AcceptsTree g p l tree
  pub splits : height tree ≤ n
  pub chains : HasShortChains tree
  pub of_form : IsOfForm form p tree
