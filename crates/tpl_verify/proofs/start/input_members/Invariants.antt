use Rattle.serde_json.specs.View.{members_view}
use Rattle.tpl_verify.specs.Filled.{AreFirst}
use Rattle.tpl_verify.proofs.start.input_members.Given as goal

abbrev pub invariant-loop-number : goal.invariant-loop-number
invariant-loop-number l = AreFirst l.graph.names.inputs l.inputs l.number (members_view l.members.entries)
