use Rattle.std.proofs.Common.{refl, sym}
use Rattle.tpl_parts.specs.SeenClaims.{given_of}
use Rattle.tpl_json.specs.Passes.{each_from}
use Rattle.tpl_reader.proofs.Singles.{singles_push, singles_pass, singles_stop}
use Rattle.tpl_reader.proofs.asked.singles_in.Goals as goal
use Rattle.tpl_reader.proofs.asked.singles_in.Goals.{then-is_single+in-Some+in_ok-push-in-Some, else-is_single}

pub loop-one-init : goal.loop-one-init
unfolding each_from
loop-one-init c = rw c.new-found.ensures.items refl

pub returns-in-None : goal.returns-in-None
returns-in-None c = singles_stop c.args.graph.now.names given_of c.args.given.now c.loop-one.one-index _ c.loop-one-test.true (sym c.if-is_single.ensures) (sym c.in-None.ensures)

pub loop-one-preserved : goal.loop-one-preserved
loop-one-preserved c =
    let names = c.args.graph.now.names in
    let given = c.args.given.now in
    elim c.if-is_single.branch [
      | then-is_single+in-Some+in_ok-push-in-Some w ↦
          rw (w.found-is, w.in_ok-push-in-Some.ensures.items) (singles_push names given_of given c.loop-one.one-index _ c.loop-one.found.items w.in-Some.one c.loop-one-test.true (sym w.if-is_single.ensures) (sym w.in-Some.ensures) c.loop-one.invariant)
      | else-is_single w ↦
          rw w.found-is (singles_pass names given_of given c.loop-one.one-index _ c.loop-one.found.items c.loop-one-test.true (sym w.if-is_single.ensures) c.loop-one.invariant)
    ]
