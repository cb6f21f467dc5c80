use Rattle.std.proofs.Common.{subst}
use Rattle.tpl_draft.specs.Named.{Named}
use Rattle.tpl_report.specs.Made.{HasAsked}
use Rattle.tpl_report.proofs.AskLemmas.{goes_on_placed, asked_placed}
use Rattle.tpl_report.proofs.requests.request_one.Goals as goal

pub returns-in-Place-clause-list : goal.returns-in-Place-clause-list
returns-in-Place-clause-list g c = goes_on_placed c.args.session.now.graph.graph c.args.session.now.inputs c.args.outsider.now.seat c.request.new.seat c.args.token _ c.in-Place.ensures.asked.0

pub returns-in-Place-clause-asked : goal.returns-in-Place-clause-asked
returns-in-Place-clause-asked g c =
    subst (λ (n : Named). HasAsked n.graph c.request.new.seat.mine c.args.token.0) c.requires.graph
    (asked_placed c.args.session.now.graph.graph c.args.session.now.inputs c.args.outsider.now.seat c.request.new.seat c.args.token _ c.in-Place.ensures.asked.0)
