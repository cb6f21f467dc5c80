use Rattle.tpl_checker.proofs.GivenLemmas.{QuietFrom}
use Rattle.tpl_checker.proofs.given.with_sources.Given as goal

abbrev pub invariant-loop-token : goal.invariant-loop-token
invariant-loop-token l = QuietFrom l.graph.graph l.initial.quiet l.quiet l.token
