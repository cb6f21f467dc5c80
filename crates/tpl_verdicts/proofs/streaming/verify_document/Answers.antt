use Rattle.std.proofs.Common.{List, ℕ, inl, subst}
use Rattle.tpl_verdicts.specs.Answer.{Verifies}
use Rattle.tpl_verdicts.specs.Streaming.{AnswersBytes}
use Rattle.tpl_verdicts.proofs.Answering.{unanswered, verified_judges}
use Rattle.tpl_verdicts.proofs.Streamed.{answers_stream, streams_verify}
use Rattle.tpl_verdicts.proofs.streaming.verify_document.Goals as goal

pub returns-in-Ok-clause-streams : goal.returns-in-Ok-clause-streams
returns-in-Ok-clause-streams g c =
    let read = c.in-Ok.ensures.ok in
    let depth = c.args.asked.limits.depth in
    let runs = c.args.asked.limits.runs in
    let style = c.args.asked.style in
    let answers = subst (λ (bytes : List ℕ). AnswersBytes g.O.Write.contents c.read_input.new.to c.answer_bytes.new.to depth runs style bytes c.answer_bytes.result) c.deref.ensures.value c.answer_bytes.ensures in
    answers_stream g.I.Read.remaining c.args.from.now c.read_input.new.from g.O.Write.contents c.args.to.now c.answer_bytes.new.to depth runs style c.answer_bytes.result c.read_input.new.to c.in-Ok.bytes.items
    read.0 read.1 read.2 answers

pub returns-in-Ok-clause-verified : goal.returns-in-Ok-clause-verified
returns-in-Ok-clause-verified g c =
    streams_verify g.I.Read.remaining c.args.from.now c.read_input.new.from g.O.Write.contents c.args.to.now c.answer_bytes.new.to c.args.asked.limits.depth c.args.asked.limits.runs c.args.asked.style c.answer_bytes.result (returns-in-Ok-clause-streams g c)

pub returns-in-Ok-clause-judged : goal.returns-in-Ok-clause-judged
returns-in-Ok-clause-judged g c done =
    verified_judges g.I.Read.remaining c.args.from.now c.read_input.new.from g.O.Write.contents c.args.to.now c.answer_bytes.new.to c.args.asked.limits.depth c.args.asked.limits.runs c.args.asked.style c.answer_bytes.result (returns-in-Ok-clause-verified g c done)

pub returns-in-Err-clause-streams : goal.returns-in-Err-clause-streams
returns-in-Err-clause-streams g c =
    inl (unanswered (Verifies c.args.asked.limits.depth c.args.asked.limits.runs c.args.asked.style) g.I.Read.remaining c.args.from.now c.read_input.new.from g.O.Write.contents c.args.to.now c.read_input.new.to c.in-Err.exit c.in-Err.ensures.err)

pub returns-in-Err-clause-verified : goal.returns-in-Err-clause-verified
returns-in-Err-clause-verified g c =
    streams_verify g.I.Read.remaining c.args.from.now c.read_input.new.from g.O.Write.contents c.args.to.now c.read_input.new.to c.args.asked.limits.depth c.args.asked.limits.runs c.args.asked.style c.in-Err.exit (returns-in-Err-clause-streams g c)

pub returns-in-Err-clause-judged : goal.returns-in-Err-clause-judged
returns-in-Err-clause-judged g c done =
    verified_judges g.I.Read.remaining c.args.from.now c.read_input.new.from g.O.Write.contents c.args.to.now c.read_input.new.to c.args.asked.limits.depth c.args.asked.limits.runs c.args.asked.style c.in-Err.exit (returns-in-Err-clause-verified g c done)
