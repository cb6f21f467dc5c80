use Rattle.std.proofs.Common.{◌+◌, List, length, subst, sym, arith}
use Rattle.tpl_causes.specs.declared.cause.Cause.{Cause}
use Rattle.tpl_causes.specs.Causes.{AreFrom}
use Rattle.tpl_causes.proofs.Order.{from_later, from_push}
use Rattle.tpl_causes.proofs.telling.add_event.Goals as goal

pub returns-then-led_to-eq0 : goal.returns-then-led_to-eq0
returns-then-led_to-eq0 g c =
    from_later 0 c.args.index (c.args.index + 1) (length c.args.events.now) c.args.causes.now.items (omega arith) c.requires.so_far

pub returns : goal.returns
returns g c =
    let events = length c.args.events.now in
    let last : Cause = record { event = c.args.index + 1; led_to = c.args.led_to; says = c.in_ok-says.says } in
    subst (λ (all : List Cause). AreFrom 0 (c.args.index + 1) events all) (sym {A = List Cause} c.in_ok-push.ensures.items)
    (from_push 0 c.args.index events c.args.causes.now.items last (omega arith) (omega arith) (let some = c.if-led_to-eq0.false in omega (arith, some)) (let within = c.if-led_to-events.false in omega (arith, within)) c.requires.so_far)
