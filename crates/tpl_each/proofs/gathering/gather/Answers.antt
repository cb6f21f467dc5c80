use Rattle.std.proofs.Common.{ℕ, List, [], ◌∷◌, ◌++◌, ◌∙◌, sym, subst, arith}
use Rattle.std.proofs.lemmas.List.Elements.{All-push}
use Rattle.tpl_each.specs.declared.slot.Slot.{Slot}
use Rattle.tpl_each.specs.Ahead.{coming}
use Rattle.tpl_each.specs.Gathering.{AreIn}
use Rattle.tpl_each.specs.Kept.{IsKept}
use Rattle.tpl_each.specs.Lines.{IsLine}
use Rattle.tpl_each.proofs.Coming.{last_came, more_came}
use Rattle.tpl_each.proofs.Lists.{zip_push}
use Rattle.tpl_each.proofs.gathering.gather.Goals as goal

pub returns-in-Last-clause-gathers : goal.returns-in-Last-clause-gathers
returns-in-Last-clause-gathers g c =
    let came = c.loop-at.invariant.came in
    let last = c.in-Last.ensures.comes in (
      came.0 ++ last.0 ∷ [],
      subst (AreIn (came.0 ++ last.0 ∷ [])) (sym c.push-in-Last.ensures.items)
          (zip_push (λ (line : List ℕ) (slot : Slot). IsKept line slot.line) came.0 c.loop-at.slots.items last.0 c.new-in-Last.result came.1 (subst (IsKept last.0) (sym c.new-in-Last.ensures) last.2)),
      last_came (coming g.R.Read.remaining c.args.ahead.now c.args.from.now) (coming g.R.Read.remaining c.loop-at.ahead c.loop-at.from) came.0 last.0 came.2 last.1 last.3 came.3 last.4,
    )

pub loop-at-preserved : goal.loop-at-preserved
loop-at-preserved g c =
    let came = c.loop-at.invariant.came in
    let next = c.in-Line.ensures.comes in
    record {
      came = (
        came.0 ++ next.0 ∷ [],
        subst (AreIn (came.0 ++ next.0 ∷ [])) (sym c.push.ensures.items)
            (zip_push (λ (line : List ℕ) (slot : Slot). IsKept line slot.line) came.0 c.loop-at.slots.items next.0 c.new.result came.1 (subst (IsKept next.0) (sym c.new.ensures) next.2)),
        All-push IsLine came.0 next.0 came.2 next.1,
        more_came (coming g.R.Read.remaining c.args.ahead.now c.args.from.now) (coming g.R.Read.remaining c.loop-at.ahead c.loop-at.from) (coming g.R.Read.remaining c.next_line.new.ahead c.next_line.new.from) came.0 next.0 came.3 next.3,
      );
      count = omega (arith, c.push.ensures.len, c.loop-at.invariant.count);
      failures = c.in-Line.ensures.failures ∙ c.loop-at.invariant.failures;
    }
