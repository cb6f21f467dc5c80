use Rattle.std.proofs.Common.{Some, ap}
use Rattle.tpl_paths.proofs.paths.meet.Goals as goal

pub returns-in-Some-paths : goal.returns-in-Some-paths
returns-in-Some-paths c = rw (c.in-Some.is, c.in-Some-paths.is) (ap Some c.narrow.ensures)
