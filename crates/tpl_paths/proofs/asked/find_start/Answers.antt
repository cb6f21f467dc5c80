use Rattle.std.proofs.Common.{nat_eq}
use Rattle.tpl_paths.specs.Knowledge.{told}
use Rattle.tpl_paths.specs.Reached.{reached_of}
use Rattle.tpl_paths.proofs.Taking.{both_if}
use Rattle.tpl_paths.proofs.asked.find_start.Goals as goal

pub returns-in-Start : goal.returns-in-Start
returns-in-Start c w =
    rw c.in-Start.is (both_if (nat_eq c.args.child.0 c.in-Start.sought.0) (reached_of c.args.reached.now) (told c.args.found.now) (told c.meet_if.new.paths) (told c.meet_if-in-Start.new.paths) c.meet_if.ensures c.meet_if-in-Start.ensures)
