use Rattle.std.proofs.Common.{◌≡◌, ap}
use Rattle.tpl_model.specs.Members.{mem}
use Rattle.tpl_model.specs.Knowledge.{Fact}
use Rattle.tpl_paths.specs.Facts.{has_fact}
use Rattle.tpl_laws.specs.TokenTests.{own_requested}
use Rattle.tpl_token_leaf.specs.Leaf.{graph_of}
use Rattle.tpl_token_leaf.proofs.Rows.{by_fact}
use Rattle.tpl_token_leaf.proofs.leaf.Leaf.own_requested.Goals as goal

pub returns : goal.returns
returns c =
    by_fact (λ (f : Fact). has_fact (record { tasks = c.empty.result; tokens = c.linked_with_own.result }) f ≡ own_requested (graph_of c.args.self.now) c.args.task.0 f)
    (λ x. ap (mem x) c.empty.ensures)
    (λ k. c.linked_with_own.ensures k)
