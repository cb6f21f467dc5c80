use Rattle.std.proofs.Common.{◌≡◌, ◌+◌, ◌<◌, ap, sym, subst, arith, take, length, ◌∙◌}
use Rattle.std.specs.Prelude.{reverse}
use Rattle.std.proofs.lemmas.List.{take_more, take_all}
use Rattle.std.proofs.lemmas.Bool.{false≢true}
use Rattle.tpl_model.specs.Rules.{Run}
use Rattle.tpl_machine.specs.Journal.{Journal}
use Rattle.tpl_hall.specs.Closes.{AllHoldAt, AllHoldBelow}
use Rattle.tpl_hall.proofs.ReportLemmas.{below_none_at, below_more_at, run_more, all_at_of, allowed_next}
use Rattle.tpl_hall.proofs.sights.seats_hold.Goals as goal

pub loop-place-init : goal.loop-place-init
loop-place-init c =
    record {
      run = ap (λ h. record c.args.core.now { events = h }) c.requires;
      below = below_none_at c.args.core.now.graph c.args.core.now.inputs c.args.journal.now c.args.seats.now;
    }

pub loop-place-preserved : goal.loop-place-preserved
loop-place-preserved c =
    let was = c.loop-place.invariant in
    let first = c.args.core.now in
    let journal = c.args.journal.now in
    let seats = c.args.seats.now in
    let place = c.loop-place.place in
    record {
      run = run_more first c.loop-place.core c.step.new.self journal place _ was.run c.in-Ok.ensures.ok (take_more journal place _ c.loop-place-test.true);
      below = below_more_at first.graph first.inputs journal c.loop-place.core.events place seats (ap (λ (j : Journal). j.events) was.run) was.below
          (subst (λ (j : Journal). AllHoldAt j.graph j.inputs c.loop-place.core.events place seats) was.run (c.all_hold_at.ensures.0 c.if-not-all_hold_at.false));
    }

pub returns : goal.returns
returns c =
    let was = c.loop-place.invariant in
    let first = c.args.core.now in
    let journal = c.args.journal.now in
    let seats = c.args.seats.now in
    let core = c.loop-place.core in
    let same : c.loop-place.place ≡ length journal = omega (arith, c.loop-place.auto.place-end, c.loop-place-test.false) in
    let here : core.events ≡ reverse (take (length journal) journal) = ap (λ (j : Journal). j.events) was.run ∙ ap (λ n. reverse (take n journal)) same in
    let whole : core ≡ record first { events = reverse journal } =
    was.run ∙ ap (λ n. record first { events = reverse (take n journal) }) same ∙ ap (λ l. record first { events = reverse l }) (take_all (length journal) journal (omega arith)) in (
      λ true. (
        subst (λ (j : Journal). Run j.graph j.inputs j.events) whole c.run_law.ensures.run,
        below_more_at first.graph first.inputs journal core.events (length journal) seats here
            (subst (λ n. AllHoldBelow first.graph first.inputs journal n seats) same was.below)
            (subst (λ (j : Journal). AllHoldAt j.graph j.inputs core.events (length journal) seats) was.run (c.all_hold_at-2.ensures.0 true)),
      ),
      λ holds. c.all_hold_at-2.ensures.1
          (subst (λ (j : Journal). AllHoldAt j.graph j.inputs core.events (length journal) seats) (sym was.run)
          (all_at_of first.graph first.inputs journal core.events (length journal) (length journal + 1) seats here (omega arith) holds.1)),
    )

-- what was reported to a seat here isn't true
pub returns-then-not-all_hold_at : goal.returns-then-not-all_hold_at
returns-then-not-all_hold_at c =
    let was = c.loop-place.invariant in
    let first = c.args.core.now in
    let journal = c.args.journal.now in
    let seats = c.args.seats.now in
    let core = c.loop-place.core in
    let place = c.loop-place.place in
    let within : place < length journal + 1 = omega (arith, c.loop-place-test.true) in (
      λ no. absurd (cc),
      λ holds. absurd (false≢true (sym c.if-not-all_hold_at.true ∙ c.all_hold_at.ensures.1
          (subst (λ (j : Journal). AllHoldAt j.graph j.inputs core.events place seats) (sym was.run)
          (all_at_of first.graph first.inputs journal core.events place (length journal + 1) seats (ap (λ (j : Journal). j.events) was.run) within holds.1)))),
    )

-- the event isn't allowed here
pub returns-in-Err : goal.returns-in-Err
returns-in-Err c = (
  λ no. absurd (cc),
  λ holds. c.in-Err.ensures.when.1 (allowed_next c.args.core.now c.loop-place.core c.args.journal.now c.loop-place.place _ c.loop-place.invariant.run c.loop-place-test.true holds.0),
)
