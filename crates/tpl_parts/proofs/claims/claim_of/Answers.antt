use Rattle.std.proofs.Common.{refl}
use Rattle.tpl_parts.specs.Claims.{claim_at}
use Rattle.tpl_parts.proofs.claims.claim_of.Goals as goal

pub returns : goal.returns
unfolding claim_at
returns c = rw (c.in_ok-body.ensures.gives, c.in_ok-list.ensures.gives, c.in_ok-name.ensures.gives, c.in_ok-note_of.ensures.gives, c.in_ok-given.ensures) refl
