use Rattle.std.proofs.Common.{subst, map}
use Rattle.std.specs.Prelude.{IsPermutation}
use mir.Syntax.{named}
use Rattle.tpl_runtime.proofs.Crosses.{session_sync}
use Rattle.tpl_runtime.proofs.session.Session.run.Goals as goal

pub run_crew-done-requires-sync-C : goal.run_crew-done-requires-sync-C
run_crew-done-requires-sync-C g c κs within = record { shared = (session_sync (record { mir = named 0; lft = _ }) _ _ c.type_bounds.send-K c.type_bounds.send-W).shared }

pub returns-clause-seats : goal.returns-clause-seats
returns-clause-seats g c =
    c.answer_of.ensures.seats c.args.n
    (subst (λ l. IsPermutation l (map (λ d. d.0.actor) c.run_crew-done.result.0.items)) c.in_default-seat_workers.ensures.all.actors c.run_crew-done.ensures.everyone)
