use Rattle.std.proofs.Common.{inr, refl}
use Rattle.std.proofs.lemmas.Result.{err_from_is_err_and}
use Rattle.tpl_json.specs.Passes.{Answers}
use Rattle.tpl_json.proofs.Reading.{read_more, read_done, read_fails}
use Rattle.tpl_json.proofs.list.read_each.Goals as goal

pub returns-in_err-one : goal.returns-in_err-one
returns-in_err-one g c =
    let p = err_from_is_err_and c.from_residual.result c.from_residual.ensures.1 in
    let fails = read_fails (Answers g.R.Fn c.args.read) c.args.items.now c.loop-index.index c.index-items-index.result c.loop-index.found.items c.in_err-one.field-0.0 c.loop-index-test.true c.loop-index.invariant.1
    (rw (← c.index-items-index.is) (record { shown = _; shows = refl; says = record { met = c.in_err-one.ensures } })) in
    rw (p.1, p.2) (record { ok = tt; err = inr fails })

pub loop-index-preserved : goal.loop-index-preserved
loop-index-preserved g c = (
  c.loop-index.invariant.0,
  rw c.in_ok-push.ensures.items (read_more (Answers g.R.Fn c.args.read) c.args.items.now c.loop-index.index c.index-items-index.result c.loop-index.found.items c.in_ok-one.one c.loop-index-test.true c.loop-index.invariant.1
      (rw (← c.index-items-index.is) (record { shown = _; shows = refl; says = record { met = c.in_ok-one.ensures } }))),
)

pub returns : goal.returns
returns g c = record { ok = read_done (Answers g.R.Fn c.args.read) c.args.items.now c.loop-index.index c.loop-index.found.items c.loop-index-test.false c.loop-index.invariant.1; err = tt }
