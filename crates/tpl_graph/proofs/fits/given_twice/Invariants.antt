use Rattle.std.proofs.Common.{◌≡◌, take, drop}
use Rattle.tpl_graph.specs.Fits.{given_again, given_twice}
use Rattle.tpl_graph.proofs.fits.given_twice.Given as goal

abbrev pub invariant-loop-index : goal.invariant-loop-index
invariant-loop-index l = given_twice l.given ≡ given_again (take l.index l.given) (drop l.index l.given)
