use Rattle.std.proofs.Common.{◌≡◌, ◌+◌, ap, sym, subst, length, ◌∙◌}
use Rattle.std.specs.Prelude.{reverse}
use Rattle.std.proofs.lemmas.Bool.{false≢true}
use Rattle.tpl_model.specs.Rules.{Run}
use Rattle.tpl_machine.specs.Journal.{Journal, opened}
use Rattle.tpl_hall.specs.Closes.{AllHoldBelow}
use Rattle.tpl_hall.proofs.ReportLemmas.{all_last_of, all_within_of, all_below_of}
use Rattle.tpl_hall.proofs.sights.all_last.Goals as goal

pub returns : goal.returns
returns c =
    let g = c.args.graph.now.graph in
    let v = c.args.inputs.now in
    let journal = c.args.journal.now in
    let seats = c.args.seats.now in
    let made : c.in_ok-core.core ≡ opened c.args.graph.now v = c.in_ok-core.ensures ∙ ap (opened c.args.graph.now) c.copy.ensures in (
      λ true.
          let held = c.seats_hold.ensures.0 true in (
            subst (λ (j : Journal). Run j.graph j.inputs (reverse journal)) made held.0,
            all_last_of g v journal seats (c.are_within.ensures.0 c.if-not-are_within.false)
                (subst (λ (j : Journal). AllHoldBelow j.graph j.inputs journal (length journal + 1) seats) made held.1),
          ),
      λ holds. c.seats_hold.ensures.1 (
        subst (λ (j : Journal). Run j.graph j.inputs (reverse journal)) (sym made) holds.0,
        subst (λ (j : Journal). AllHoldBelow j.graph j.inputs journal (length journal + 1) seats) (sym made) (all_below_of g v journal (length journal + 1) seats holds.1),
      ),
    )

-- what was reported to a seat lies beyond the journal
pub returns-then-not-are_within : goal.returns-then-not-are_within
returns-then-not-are_within c = (
  λ no. absurd (cc),
  λ holds. absurd (false≢true (sym c.if-not-are_within.true ∙ c.are_within.ensures.1
      (all_within_of c.args.graph.now.graph c.args.inputs.now c.args.journal.now c.args.seats.now holds.1))),
)
