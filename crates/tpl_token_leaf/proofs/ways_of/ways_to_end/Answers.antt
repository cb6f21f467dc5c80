use Rattle.std.proofs.Common.{Bool, subst}
use Rattle.tpl_model.specs.declared.finals.Final.TheVariants.{Canceled}
use Rattle.tpl_model.specs.Graph.{kind}
use Rattle.tpl_model.specs.Certificate.{end_left}
use Rattle.tpl_model.specs.TokenRules.{Way}
use Rattle.tpl_laws.specs.RowTests.{implies}
use Rattle.tpl_laws.specs.TokenTests.{each_body_end, each_drop}
use Rattle.tpl_token_leaf.specs.Leaf.{graph_of, assumed_in, rows_in}
use Rattle.tpl_token_leaf.specs.LeafRules.{holds_as}
use Rattle.tpl_token_leaf.specs.Ways.{AreWays}
use Rattle.tpl_token_leaf.proofs.ways_of.ways_to_end.Goals as goal

pub returns : goal.returns
returns c =
    let leaf = c.args.leaf.now in
    let t = c.args.task.0 in
    let holds = holds_as leaf t (kind (graph_of leaf) t) in
    let drops = each_drop (graph_of leaf) (assumed_in leaf) (rows_in leaf) t (kind (graph_of leaf) t) in
    c.join.ensures holds (each_body_end (graph_of leaf) (assumed_in leaf) (rows_in leaf) t) (λ (test : Way → Bool). implies (end_left (assumed_in leaf).assumed t Canceled) (drops test)) c.body_ways-by_body.ensures
    (subst (λ (b : Bool). AreWays (λ (test : Way → Bool). implies b (drops test)) holds c.only_if.result) c.may_end-canceled.ensures (c.only_if.ensures holds drops c.drop_ways.ensures))
