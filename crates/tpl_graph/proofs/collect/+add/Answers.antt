use Rattle.std.proofs.Common.{arith, ◌∙◌}
use Rattle.tpl_draft.specs.Numbered.{names_in}
use Rattle.tpl_draft.proofs.AskLemmas.{deep_in}
use Rattle.tpl_graph.proofs.CollectLemmas.{one_added, both_added, both_again}
use Rattle.tpl_graph.proofs.collect.+add.Goals as goal

pub add_names-add_within-requires : goal.add_names-add_within-requires
add_names-add_within-requires t c =
    omega (arith, c.decreases, deep_in _ _ _ _ c.loop-statement.invariant.whole c.loop-statement-test.true c.statement-item.is)

pub add_names-loop-statement-preserved : goal.add_names-loop-statement-preserved
add_names-loop-statement-preserved t c =
    one_added (names_in c.args.sort) _ _ _ _ _ _ _ _ _ _ c.loop-statement-test.true c.statement-item.is c.loop-statement.invariant c.in_ok-again.ensures.names c.in_ok-again.ensures.twice c.either-twice.ensures

pub add_within-returns-in_ok-second-in-If-clause-names : goal.add_within-returns-in_ok-second-in-If-clause-names
add_within-returns-in_ok-second-in-If-clause-names t c =
    rw c.in-If.is (both_added (names_in c.args.sort) c.in-If.yes c.in-If.no c.args.names.now _ _ c.in_ok-first-in-If.ensures.names c.in_ok-second-in-If.ensures.names)

pub add_within-returns-in_ok-second-in-If-clause-twice : goal.add_within-returns-in_ok-second-in-If-clause-twice
add_within-returns-in_ok-second-in-If-clause-twice t c =
    rw c.in-If.is (c.either.ensures ∙ both_again (names_in c.args.sort) c.in-If.yes c.in-If.no c.args.names.now _ _ _ c.in_ok-first-in-If.ensures.names c.in_ok-first-in-If.ensures.twice c.in_ok-second-in-If.ensures.twice)

pub add_within-returns-in_ok-second-in-When-clause-names : goal.add_within-returns-in_ok-second-in-When-clause-names
add_within-returns-in_ok-second-in-When-clause-names t c =
    rw c.in-When.is (both_added (names_in c.args.sort) c.in-When.yes c.in-When.no c.args.names.now _ _ c.in_ok-first-in-When.ensures.names c.in_ok-second-in-When.ensures.names)

pub add_within-returns-in_ok-second-in-When-clause-twice : goal.add_within-returns-in_ok-second-in-When-clause-twice
add_within-returns-in_ok-second-in-When-clause-twice t c =
    rw c.in-When.is (c.either-in-When.ensures ∙ both_again (names_in c.args.sort) c.in-When.yes c.in-When.no c.args.names.now _ _ _ c.in_ok-first-in-When.ensures.names c.in_ok-first-in-When.ensures.twice c.in_ok-second-in-When.ensures.twice)
