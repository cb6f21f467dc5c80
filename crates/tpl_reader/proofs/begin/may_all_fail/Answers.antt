use Rattle.std.proofs.Common.{sym}
use Rattle.tpl_draft.specs.Ids.{site_number}
use Rattle.tpl_reader.specs.Begin.{may_fail}
use Rattle.tpl_cert.proofs.Names.{list_all_stops}
use Rattle.tpl_reader.proofs.begin.may_all_fail.Goals as goal

pub returns-then-not-may_fail : goal.returns-then-not-may_fail
returns-then-not-may_fail c =
    sym (list_all_stops (may_fail c.args.graph.now.graph) site_number c.args.sites.now c.loop-site.site-index _ c.loop-site-test.true (sym c.if-not-may_fail.ensures))
