use Rattle.tpl_cli.proofs.answer.Goals as goal

pub returns-in-Serve : goal.returns-in-Serve
returns-in-Serve g c = rw c.in-Serve.is c.serve_watched.ensures

pub returns-in-Each : goal.returns-in-Each
returns-in-Each g c = rw c.in-Each.is c.answer_each.ensures

pub returns-in-Run : goal.returns-in-Run
returns-in-Run g c = rw c.in-Run.is c.run.ensures

pub returns-in-Refute : goal.returns-in-Refute
returns-in-Refute g c = rw c.in-Refute.is (rw c.search_of-search.ensures.claim at c.refute.ensures)

pub returns-in-Verify : goal.returns-in-Verify
returns-in-Verify g c = rw c.in-Verify.is (rw (c.limits_of-limits.ensures.depth, c.limits_of-limits.ensures.tries.0) at c.verify.ensures)

pub returns-in-Trace : goal.returns-in-Trace
returns-in-Trace g c = rw c.in-Trace.is c.trace.ensures
