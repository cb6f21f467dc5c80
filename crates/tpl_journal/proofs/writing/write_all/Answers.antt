use Rattle.std.proofs.Common.{◌∙◌, arith}
use Rattle.std.proofs.lemmas.List.{take_rest}
use Rattle.tpl_journal.proofs.Known.{appends_more, took_some}
use Rattle.tpl_journal.proofs.writing.write_all.Goals as goal

pub loop-written-preserved : goal.loop-written-preserved
loop-written-preserved g c = record {
  within = omega (arith, c.in-Ok.ensures.bound);
  known = appends_more _ _ _ _ _ _ c.loop-written.invariant.known (rw take_rest at c.in-Ok.ensures.bytes);
  failures = c.in-Ok.ensures.failures ∙ took_some c.in-Ok.count _ _ c.in-Ok.count-test.1 ∙ c.loop-written.invariant.failures;
}
