use Rattle.tpl_draft.proofs.FirstLemmas.{NoneUpTo}
use Rattle.tpl_draft.proofs.OptionLemmas.{some_fault}
use Rattle.tpl_graph.proofs.check.pass_options.Given as goal

abbrev pub invariant-loop-t : goal.invariant-loop-t
invariant-loop-t l = NoneUpTo (some_fault l.draft) l.t
