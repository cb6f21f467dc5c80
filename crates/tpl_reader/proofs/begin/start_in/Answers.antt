use Rattle.tpl_reader.proofs.Begins.{sites_below}
use Rattle.tpl_reader.proofs.begin.start_in.Goals as goal

pub may_all_fail-requires : goal.may_all_fail-requires
may_all_fail-requires c =
    rw c.deref-3.ensures.value (sites_below c.args.graph.now.names.sites _ c.in_ok-fail.fail.items c.in_ok-fail.ensures)
