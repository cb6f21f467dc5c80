use Rattle.std.proofs.Common.{◌++◌, ◌∙◌, sym, arith}
use Rattle.tpl_journal.specs.Counting.{remaining_of}
use Rattle.tpl_journal.proofs.CutLemmas.{lacks-append}
use Rattle.tpl_each.specs.Ahead.{ahead_of, coming}
use Rattle.tpl_each.proofs.Coming.{end_comes, line_comes, open_comes}
use Rattle.tpl_each.proofs.next.next_line.Goals as goal

pub returns-in-Ended-clause-comes : goal.returns-in-Ended-clause-comes
returns-in-Ended-clause-comes g c =
    let kept = c.loop.invariant.kept in
    let more = c.in-Ended.ensures kept.0 kept.2 in
    line_comes (coming g.R.Read.remaining c.args.ahead.now c.args.from.now) (remaining_of g.R.Read.remaining c.loop.from) (ahead_of c.loop.ahead) (ahead_of c.taken.new.ahead) kept.0 more.0 c.in-Ended.ended kept.1 kept.3 more.1 more.2 more.3

pub returns-in-Ok-eq0-clause-comes : goal.returns-in-Ok-eq0-clause-comes
returns-in-Ok-eq0-clause-comes g c =
    let kept = c.loop.invariant.kept in
    let more = c.in-Open.ensures kept.0 kept.2 in
    let rest = ahead_of c.loop.ahead in
    let old = coming g.R.Read.remaining c.args.ahead.now c.args.from.now in
    c.last.ensures.comes (kept.0 ++ rest) old (coming g.R.Read.remaining c.refill.new.self c.refill.new.from) (lacks-append 10 kept.0 rest kept.1 more.0) more.1
    (end_comes old (remaining_of g.R.Read.remaining c.loop.from) (remaining_of g.R.Read.remaining c.refill.new.from) rest (ahead_of c.taken.new.ahead) kept.0 (ahead_of c.refill.new.self) kept.3 more.2
    c.in-Ok-eq0.ensures.bytes.0 (sym c.in-Ok-eq0.ensures.count ∙ c.in-Ok-eq0.field-0-test) (c.in-Ok-eq0.ensures.bytes.1 c.in-Ok-eq0.field-0-test))

pub returns-in-Ok-eq0-clause-calls : goal.returns-in-Ok-eq0-clause-calls
returns-in-Ok-eq0-clause-calls g c is = absurd (c.last.ensures.finite is)

pub loop-preserved : goal.loop-preserved
loop-preserved g c =
    let kept = c.loop.invariant.kept in
    let more = c.in-Open.ensures kept.0 kept.2 in
    let rest = ahead_of c.loop.ahead in
    record {
      kept = (
        kept.0 ++ rest,
        lacks-append 10 kept.0 rest kept.1 more.0,
        more.1,
        open_comes (coming g.R.Read.remaining c.args.ahead.now c.args.from.now) (remaining_of g.R.Read.remaining c.loop.from) (remaining_of g.R.Read.remaining c.refill.new.from) rest (ahead_of c.taken.new.ahead) kept.0 (ahead_of c.refill.new.self) kept.3 more.2 c.in-Ok.ensures.bytes.0,
      );
      calls = omega (arith, c.in-Ok.ensures.calls, c.loop.invariant.calls, c.loop-test.true);
      failures = c.in-Ok.ensures.failures ∙ c.loop.invariant.failures;
    }
