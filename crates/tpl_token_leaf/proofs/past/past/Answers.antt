use Rattle.std.proofs.Common.{sym}
use Rattle.tpl_token_leaf.specs.Leaf.{rows_in}
use Rattle.tpl_token_leaf.specs.LeafRules.{ends_as, kind_left_in}
use Rattle.tpl_token_leaf.proofs.FactTests.{ends_all}
use Rattle.tpl_token_leaf.proofs.past.past.Goals as goal

pub returns-in-None : goal.returns-in-None
returns-in-None c =
    sym (ends_all (rows_in c.args.leaf.now) c.args.task.0 (ends_as c.args.leaf.now c.args.task.0 (kind_left_in c.args.leaf.now c.args.task.0)) (λ f. sym (c.in-None.ensures f)))

pub returns-in-Some : goal.returns-in-Some
returns-in-Some c = c.ends_within.ensures (ends_as c.args.leaf.now c.args.task.0 (kind_left_in c.args.leaf.now c.args.task.0)) c.in-Some.ensures
