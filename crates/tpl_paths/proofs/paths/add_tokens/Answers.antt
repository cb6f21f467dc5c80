use Rattle.std.proofs.Common.{Some, ap}
use Rattle.tpl_paths.proofs.paths.add_tokens.Goals as goal

pub returns-in-Some : goal.returns-in-Some
returns-in-Some c = rw (c.in-Some.is) (ap Some c.knowing.ensures)
