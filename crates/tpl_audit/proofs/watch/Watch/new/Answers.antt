use Rattle.tpl_audit.proofs.WatchLemmas.{none_noted}
use Rattle.tpl_audit.proofs.watch.Watch.new.Goals as goal

pub returns-clause-asked : goal.returns-clause-asked
returns-clause-asked c = λ k. none_noted 32 k

pub returns-clause-failed : goal.returns-clause-failed
returns-clause-failed c = λ site. none_noted 256 site
