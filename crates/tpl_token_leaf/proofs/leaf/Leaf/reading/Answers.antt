use Rattle.tpl_model.specs.View.{known}
use Rattle.tpl_token_leaf.proofs.Readings.{agreeing}
use Rattle.tpl_token_leaf.proofs.leaf.Leaf.reading.Goals as goal

pub returns : goal.returns
returns c = agreeing c.args.self.now c.requires.leaf c.valid_law.ensures.graph c.args.task.0 (known c.args.view.now) c.args.children.now c.requires.view c.requires.children
