use Rattle.std.proofs.Common.{◌≡◌, Bool, map, take}
use Rattle.json.specs.Value.{members_view}
use Rattle.serde_json.specs.Data.{Data, no_members}
use Rattle.tpl_json.specs.View.{members_from}
use Rattle.tpl_parts.specs.Start.{Tests}
use Rattle.tpl_parts.proofs.Truths.{seen, noted}
use Rattle.tpl_parts.proofs.start.all_pass.Given as goal

abbrev pub invariant-loop-member : goal.invariant-loop-member
invariant-loop-member g l =
    goal.F-IsAlwaysCallable g l.test
    × ((p : Data → Bool) → Tests g.F.Fn l.test p → map seen l.passes.entries ≡ noted p (members_from (members_view (take l.member-index l.members)) no_members))
