use Rattle.std.proofs.Common.{refl}
use Rattle.tpl_draw.proofs.draw.picture.Goals as goal

pub returns : goal.returns
returns c = rw (c.in_ok-add_closing.ensures, c.in_ok-add_lines.ensures, c.in_ok-text.ensures.ok, c.opening.ensures) refl
