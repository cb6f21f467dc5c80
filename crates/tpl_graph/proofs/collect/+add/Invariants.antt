use Rattle.tpl_draft.specs.Numbered.{names_in}
use Rattle.tpl_graph.proofs.CollectLemmas.{AddedTo}
use Rattle.tpl_graph.proofs.collect.+add.Given as goal

abbrev pub invariant-add_names-loop-statement : goal.invariant-add_names-loop-statement
invariant-add_names-loop-statement l =
    AddedTo (names_in l.sort) l.body l.statement-items l.statement-index l.fn.names l.names l.twice
