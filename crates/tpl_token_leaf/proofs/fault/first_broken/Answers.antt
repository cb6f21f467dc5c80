use Rattle.std.proofs.Common.{◌<◌, ◌≤◌, ◌∙◌, length, sym, arith}
use Rattle.tpl_checker.proofs.LeafLemmas.{all_unbroken, here_broken, next_unbroken, none_broken}
use Rattle.tpl_laws.specs.TokenTests.{token_first_broken}
use Rattle.tpl_token_leaf.specs.Leaf.{graph_of, assumed_in, rows_in}
use Rattle.tpl_token_leaf.proofs.TokenLeafLemmas.{finds_broken_with_tokens}
use Rattle.tpl_token_leaf.proofs.fault.first_broken.Goals as goal

pub loop-number-init : goal.loop-number-init
loop-number-init c = none_broken (token_first_broken (graph_of c.args.leaf.now) (assumed_in c.args.leaf.now) (rows_in c.args.leaf.now)) (length (graph_of c.args.leaf.now).tasks)

pub returns-in-Some : goal.returns-in-Some
returns-in-Some c =
    let lt : c.loop-number.number < length (graph_of c.args.leaf.now).tasks = omega arith in
    here_broken (finds_broken_with_tokens (graph_of c.args.leaf.now) (assumed_in c.args.leaf.now) (rows_in c.args.leaf.now)) c.loop-number.invariant lt c.in-Some.rule (sym c.in-Some.is ∙ c.broken.ensures)

pub loop-number-preserved : goal.loop-number-preserved
loop-number-preserved c =
    let lt : c.loop-number.number < length (graph_of c.args.leaf.now).tasks = omega arith in
    next_unbroken (finds_broken_with_tokens (graph_of c.args.leaf.now) (assumed_in c.args.leaf.now) (rows_in c.args.leaf.now)) c.loop-number.invariant lt (sym c.in_default.is ∙ c.broken.ensures)

pub returns : goal.returns
returns c =
    let le : length (graph_of c.args.leaf.now).tasks ≤ c.loop-number.number = omega arith in
    all_unbroken (finds_broken_with_tokens (graph_of c.args.leaf.now) (assumed_in c.args.leaf.now) (rows_in c.args.leaf.now)) c.loop-number.invariant le
