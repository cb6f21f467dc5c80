use Rattle.std.proofs.Common.{refl}
use Rattle.tpl_parts.specs.Start.{start_at}
use Rattle.tpl_parts.proofs.start.start_of.Goals as goal

pub returns : goal.returns
unfolding start_at
returns c = rw (← c.has_only.ensures, c.if-not-has_only.false, c.in_ok-inputs.ensures, c.in_ok-request.ensures, c.in_ok-fail.ensures) refl
