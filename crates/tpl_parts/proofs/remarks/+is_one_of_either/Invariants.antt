use Rattle.std.proofs.Common.{length}
use Rattle.tpl_parts.proofs.remarks.+is_one_of_either.Given as goal

abbrev pub decreases-is_one_of_either : goal.decreases-is_one_of_either
decreases-is_one_of_either l = length l.names.now
