use Rattle.std.proofs.Common.{◌++◌, drop}
use Rattle.std.specs.Option.{option_map}
use Rattle.tpl_draft.specs.Ids.{token_number}
use Rattle.tpl_model.specs.Certificate.{as_quiet}
use Rattle.tpl_checker.specs.Assumptions.{assumed_of}
use Rattle.tpl_checker.proofs.GivenLemmas.{GivenSoFar}
use Rattle.tpl_checker.proofs.given.assumed_with.Given as goal

abbrev pub invariant-loop-one : goal.invariant-loop-one
invariant-loop-one l = GivenSoFar (as_quiet (option_map token_number l.fn.own) ++ l.given) (drop l.one-index l.given) (assumed_of l.assumed)
