use Rattle.std.proofs.Common.{arith}
use Rattle.std.proofs.lemmas.Bool.{leb-true}
use Rattle.tpl_hall.proofs.StayLemmas.{went_on, went_in}
use Rattle.tpl_hall.proofs.hall.Hall.goes_on.Goals as goal

pub returns-in-Some-clause-goes : goal.returns-in-Some-clause-goes
returns-in-Some-clause-goes g c = λ le first stays.
    went_on c.in-Some.events _ c.args.stint first c.args.seat.now (omega (arith, c.len.ensures, leb-true c.in-Some.events c.len.result le)) c.in-Some.is stays

pub returns-in-None-clause-goes : goal.returns-in-None-clause-goes
returns-in-None-clause-goes g c = λ fits first stays.
    went_in c.args.graph.now c.args.inputs.now c.args.stint first c.args.seat.now c.args.self.now.core (c.fits.ensures.fits fits) c.in-None.is stays
