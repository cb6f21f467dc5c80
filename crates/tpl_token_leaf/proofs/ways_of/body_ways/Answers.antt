use Rattle.std.proofs.Common.{◌&&◌, sym, ◌∙◌, Bool}
use Rattle.tpl_model.specs.declared.finals.Final.TheVariants.{RanToCompletion, Canceled, Faulted}
use Rattle.tpl_model.specs.Graph.{kind}
use Rattle.tpl_model.specs.TokenRules.{Way, may_run}
use Rattle.tpl_laws.specs.RowTests.{each_end}
use Rattle.tpl_token_leaf.specs.Leaf.{graph_of, rows_in}
use Rattle.tpl_token_leaf.specs.LeafRules.{each_end_so, holds_as}
use Rattle.tpl_token_leaf.proofs.WayLemmas.{is_left, not_left}
use Rattle.tpl_token_leaf.proofs.ways_of.body_ways.Goals as goal

pub returns-then-not-may_run : goal.returns-then-not-may_run
returns-then-not-may_run c = not_left _ _ _ _ (sym c.may_run.ensures ∙ c.if-not-may_run.true) (c.none.ensures _)

pub returns : goal.returns
returns c =
    let holds = holds_as c.args.leaf.now c.args.task.0 (kind (graph_of c.args.leaf.now) c.args.task.0) in
    let each = each_end_so c.args.leaf.now c.args.task.0 in
    is_left holds c.join-2.result (may_run (rows_in c.args.leaf.now) c.args.task.0) (λ (test : Way → Bool). each_end (λ f. each f test)) (sym c.may_run.ensures ∙ c.if-not-may_run.false)
    (c.join-2.ensures holds (each RanToCompletion) (λ (test : Way → Bool). each Canceled test && each Faulted test) c.body_way-ran.ensures
    (c.join.ensures holds (each Canceled) (each Faulted) c.body_way-canceled.ensures c.body_way-faulted.ensures))
