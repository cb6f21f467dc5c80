use Rattle.std.proofs.Common.{◌≡◌, map, take, true}
use Rattle.tpl_draft.specs.Ids.{site_number}
use Rattle.tpl_reader.specs.Begin.{may_all_fail}
use Rattle.tpl_reader.proofs.begin.may_all_fail.Given as goal

abbrev pub invariant-loop-site : goal.invariant-loop-site
invariant-loop-site l = may_all_fail l.graph.graph (map site_number (take l.site-index l.sites)) ≡ true
