use Rattle.std.proofs.Common.{◌≡◌, filter, not, take}
use Rattle.tpl_reasons.specs.Words.{is_of_job}
use Rattle.tpl_reasons.proofs.words.without_jobs.Given as goal

abbrev pub invariant-loop-one : goal.invariant-loop-one
invariant-loop-one l = l.others.items ≡ filter (λ one. not (is_of_job one)) (take l.one-index l.given)
