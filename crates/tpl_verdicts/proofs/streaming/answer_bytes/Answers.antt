use Rattle.tpl_verdicts.proofs.Answering.{unread}
use Rattle.tpl_verdicts.proofs.Streamed.{put_answers}
use Rattle.tpl_verdicts.proofs.streaming.answer_bytes.Goals as goal

pub returns-in-Err : goal.returns-in-Err
returns-in-Err g c =
    let depth = c.args.asked.limits.depth in
    let runs = c.args.asked.limits.runs in
    let style = c.args.asked.style in
    put_answers g.W.Write.contents c.args.to.now c.put_answered.new.to depth runs c.args.bytes.now c.put_answered.result style c.unread.result c.requires.short
    (unread depth runs style c.args.bytes.now c.unread.result c.unread.ensures.answer) c.put_answered.ensures
