use Rattle.std.proofs.Common.{◌≡◌, ℕ, true, List, [], length, ◌++◌, ◌+◌, ◌∙◌, refl, sym, ap, subst, inl, inr, length-append, arith}
use Rattle.std.specs.Prelude.{◌&&◌, if◌then◌else◌}
use Rattle.std.specs.Io.KnownBytes.{prepend_known}
use Rattle.std.specs.List.{list_all}
use Rattle.tpl_journal.specs.Counting.{contents_of, counted, failures_of, remaining_of}
use Rattle.tpl_commands.specs.declared.exit.Exit.TheVariants.{Success, Failure}
use Rattle.tpl_commands.specs.Responding.{Says}
use Rattle.tpl_each.specs.declared.gathering.Ends.{Ends}
use Rattle.tpl_each.specs.Ahead.{coming}
use Rattle.tpl_each.specs.Gathering.{Came, is_failed}
use Rattle.tpl_each.specs.Said.{Said, is_yes}
use Rattle.tpl_each.proofs.Answered.{AreAnswered, all_lines, all_yes-append, answered_more, first_lines, front_more_written, more_said, none_answered, read_lines, some_lines, written_more}
use Rattle.tpl_each.proofs.Lists.{zip_length}
use Rattle.tpl_each.proofs.serving.serve_each.Goals as goal

pub loop-number-init : goal.loop-number-init
loop-number-init g c =
    let answers = g.C.Command.answers c.args.command.now in
    let from = remaining_of g.R.Read.remaining c.args.from.now in
    let to = contents_of g.W.Write.contents c.args.to.now in
    record {
      answered = (
        [],
        [],
        subst (λ (z : List ℕ). AreAnswered answers from (prepend_known z from) to to [] []) (sym c.new-ahead.ensures) (none_answered answers from to),
        (let e : 1 ≡ length {A = Said} [] + 1 = omega arith in e),
        refl,
      );
      reads = refl;
      writes = refl;
    }

pub loop-number-preserved : goal.loop-number-preserved
loop-number-preserved g c =
    let answers = g.C.Command.answers c.args.command.now in
    let from = remaining_of g.R.Read.remaining c.args.from.now in
    let now = coming g.R.Read.remaining c.loop-number.ahead c.loop-number.from in
    let to = contents_of g.W.Write.contents c.args.to.now in
    let wrote = contents_of g.W.Write.contents c.loop-number.to in
    let inv = c.loop-number.invariant in
    let a = inv.answered in
    let later = coming g.R.Read.remaining c.serve_batch-served.new.ahead c.serve_batch-served.new.from in
    let writes = contents_of g.W.Write.contents c.serve_batch-served.new.to in
    let s = c.in-Ok.ensures.served in
    let came = subst (λ (e : Ends). Came now later s.lines e) c.in-More.is s.came in
    let reads = c.in-Ok.ensures.reads ∙ ap (λ (e : Ends). counted (is_failed e) (failures_of c.loop-number.from)) c.in-More.is in
    let good : c.both-good.result ≡ list_all (λ (it : Said). is_yes it.exit) (a.1 ++ s.said) =
    c.both-good.ensures ∙ (ap (λ b. b && c.in-Ok.batch.all_yes) a.4 ∙ (ap (λ b. list_all (λ (it : Said). is_yes it.exit) a.1 && b) s.yes ∙ sym (all_yes-append a.1 s.said))) in
    record {
      answered = (
        a.0 ++ s.lines,
        a.1 ++ s.said,
        answered_more answers from now to wrote a.0 a.1 a.2 later writes c.loop-number.number s.lines s.said came.0 came.1 s.answered a.3 s.written,
        (let size = length-append a.1 s.said in let e : c.loop-number.number + c.in-Ok.batch.count ≡ length (a.1 ++ s.said) + 1 = omega (arith, s.count, a.3) in e),
        good,
      );
      reads = reads ∙ inv.reads;
      writes = c.in-Ok.ensures.writes ∙ inv.writes;
    }

pub returns-in-End : goal.returns-in-End
returns-in-End g c =
    let now = coming g.R.Read.remaining c.loop-number.ahead c.loop-number.from in
    let inv = c.loop-number.invariant in
    let a = inv.answered in
    let later = coming g.R.Read.remaining c.serve_batch-served.new.ahead c.serve_batch-served.new.from in
    let s = c.in-Ok.ensures.served in
    let came = subst (λ (e : Ends). Came now later s.lines e) c.in-End.is s.came in
    let reads = c.in-Ok.ensures.reads ∙ ap (λ (e : Ends). counted (is_failed e) (failures_of c.loop-number.from)) c.in-End.is in
    let good : c.both-good.result ≡ list_all (λ (it : Said). is_yes it.exit) (a.1 ++ s.said) =
    c.both-good.ensures ∙ (ap (λ b. b && c.in-Ok.batch.all_yes) a.4 ∙ (ap (λ b. list_all (λ (it : Said). is_yes it.exit) a.1 && b) s.yes ∙ sym (all_yes-append a.1 s.said))) in (
      a.0 ++ s.lines,
      a.1 ++ s.said,
      more_said _ _ _ _ _ _ _ a.2 s.lines s.said s.answered,
      inl (record {
        read = all_lines _ _ _ _ _ _ _ a.2 s.lines came;
        failures = reads ∙ inv.reads;
        writes = record {
          whole = written_more _ _ _ _ _ _ _ a.2 _ c.loop-number.number s.said a.3 s.written;
          failures = c.in-Ok.ensures.writes ∙ inv.writes;
        };
        exit = c.exit_for.ensures ∙ ap (λ b. if b then Success else Failure) good;
      }),
    )

pub returns-in-Failed : goal.returns-in-Failed
returns-in-Failed g c =
    let now = coming g.R.Read.remaining c.loop-number.ahead c.loop-number.from in
    let inv = c.loop-number.invariant in
    let a = inv.answered in
    let later = coming g.R.Read.remaining c.serve_batch-served.new.ahead c.serve_batch-served.new.from in
    let s = c.in-Ok.ensures.served in
    let came = subst (λ (e : Ends). Came now later s.lines e) c.in-Failed.is s.came in
    let reads = c.in-Ok.ensures.reads ∙ ap (λ (e : Ends). counted (is_failed e) (failures_of c.loop-number.from)) c.in-Failed.is in (
      a.0 ++ s.lines,
      a.1 ++ s.said,
      more_said _ _ _ _ _ _ _ a.2 s.lines s.said s.answered,
      inr (inr (inl (record {
        read = first_lines _ _ _ _ _ _ _ a.2 s.lines came;
        failed = reads ∙ ap (counted true) inv.reads;
        writes = record {
          whole = written_more _ _ _ _ _ _ _ a.2 _ c.loop-number.number s.said a.3 s.written;
          failures = c.in-Ok.ensures.writes ∙ inv.writes;
        };
        exit = refl;
      }))),
    )

pub returns-in-Endless : goal.returns-in-Endless
returns-in-Endless g c =
    let now = coming g.R.Read.remaining c.loop-number.ahead c.loop-number.from in
    let inv = c.loop-number.invariant in
    let a = inv.answered in
    let later = coming g.R.Read.remaining c.serve_batch-served.new.ahead c.serve_batch-served.new.from in
    let s = c.in-Ok.ensures.served in
    let came = subst (λ (e : Ends). Came now later s.lines e) c.in-Endless.is s.came in (
      a.0 ++ s.lines,
      a.1 ++ s.said,
      more_said _ _ _ _ _ _ _ a.2 s.lines s.said s.answered,
      inr (inr (inr (record {
        read = first_lines _ _ _ _ _ _ _ a.2 s.lines came;
        many = inl (c.in-Ok.ensures.calls c.in-Endless.is);
        writes = record {
          whole = written_more _ _ _ _ _ _ _ a.2 _ c.loop-number.number s.said a.3 s.written;
          failures = c.in-Ok.ensures.writes ∙ inv.writes;
        };
        exit = refl;
      }))),
    )

pub returns-in-Err : goal.returns-in-Err
returns-in-Err g c =
    let inv = c.loop-number.invariant in
    let a = inv.answered in
    let s = c.in-Err.ensures.stopped in (
      a.0 ++ s.lines,
      a.1 ++ s.said,
      more_said _ _ _ _ _ _ _ a.2 s.lines s.said s.answered,
      inr (inl (record {
        read = some_lines _ _ _ _ _ _ _ a.2 s.lines s.came;
        stops = record {
          front = front_more_written _ _ _ _ _ _ _ a.2 _ c.loop-number.number s.said a.3 s.written;
          failures = c.in-Err.ensures.writes ∙ ap (counted true) inv.writes;
        };
        exit = refl;
      })),
    )

pub returns : goal.returns
returns g c =
    let answers = g.C.Command.answers c.args.command.now in
    let inv = c.loop-number.invariant in
    let a = inv.answered in (
      a.0,
      a.1,
      a.2.answered,
      inr (inr (inr (record {
        read = read_lines _ _ _ _ _ _ _ a.2;
        many = inr (let same = zip_length (λ (line : List ℕ) (said : Said). Says answers line said.exit said.text) a.0 a.1 a.2.answered in omega (arith, a.3, c.loop-number-test.false));
        writes = record { whole = a.2.written; failures = inv.writes };
        exit = refl;
      }))),
    )
