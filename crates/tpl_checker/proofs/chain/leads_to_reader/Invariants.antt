use Rattle.tpl_laws.specs.RowTests.{chain_by}
use Rattle.tpl_checker.specs.Assumptions.{assumed_of}
use Rattle.tpl_checker.proofs.ChainLemmas.{ChainFrom}
use Rattle.tpl_checker.proofs.chain.leads_to_reader.Given as goal

abbrev pub invariant-loop-at : goal.invariant-loop-at
invariant-loop-at l = ChainFrom l.graph.graph (chain_by l.graph.graph (assumed_of l.assumed)) l.fn.task.0 l.chain l.at l.carrier.0
