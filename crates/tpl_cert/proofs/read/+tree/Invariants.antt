use Rattle.std.proofs.Common.{◌+◌, ◌*◌}
use Rattle.serde_json.specs.Data.{depth}
use Rattle.tpl_json.specs.View.{view}
use Rattle.tpl_cert.proofs.read.+tree.Given as goal

abbrev pub decreases-named_tree : goal.decreases-named_tree
decreases-named_tree l = 4 * depth (view l.value.now) + 3

abbrev pub decreases-branch_of : goal.decreases-branch_of
decreases-branch_of l = 4 * depth (view l.value.now)

abbrev pub decreases-input_of : goal.decreases-input_of
decreases-input_of l = 4 * depth (view l.value.now) + 1

abbrev pub decreases-end_of : goal.decreases-end_of
decreases-end_of l = 4 * depth (view l.value.now) + 1

abbrev pub decreases-node_of : goal.decreases-node_of
decreases-node_of l = 4 * depth (view l.value.now) + 2

abbrev pub decreases-winner_of : goal.decreases-winner_of
decreases-winner_of l = 4 * depth (view l.value.now) + 1
