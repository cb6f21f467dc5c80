use Rattle.std.proofs.Common.{[], true, ◌++◌, ◌∙◌, ap, refl, sym}
use Rattle.std.proofs.lemmas.Result.{err_from_is_err_and}
use Rattle.tpl_journal.proofs.PartLemmas.{as_text, nothing_written, stopped, then_text, then_written}
use Rattle.tpl_each.specs.Said.{headed}
use Rattle.tpl_each.proofs.Written.{by_parts, text_more}
use Rattle.tpl_each.proofs.writing.write_text.Goals as goal

pub loop-rest-init : goal.loop-rest-init
loop-rest-init g c = ([], nothing_written g.W.Write.contents c.args.to.now, refl)

pub returns-in_err-write_line : goal.returns-in_err-write_line
returns-in_err-write_line g c =
    let p = err_from_is_err_and c.from_residual.result c.from_residual.ensures.1 in
    let done = c.loop-rest.invariant in
    let parts = by_parts c.args.head.now c.loop-rest.rest.now c.split_at.result.0.now c.split_at.result.1.now c.line_len.result (c.line_len.ensures.headed c.args.head.now) c.split_at.ensures.front c.split_at.ensures.back in
    as_text g.W.Write.contents _ _ _ _ _ (sym (done.2 ∙ ap (λ z. done.0 ++ z) parts))
    (then_text g.W.Write.contents _ _ _ _ _ _ done.1 (stopped g.W.Write.contents _ _ _ _ c.from_residual.result p.0 p.1 c.in_err-write_line.ensures.err))

pub loop-rest-preserved : goal.loop-rest-preserved
loop-rest-preserved g c =
    let head = c.args.head.now in
    let line = c.split_at.result.0.now in
    let rest = c.split_at.result.1.now in
    let done = c.loop-rest.invariant in (
      done.0 ++ (head ++ line),
      then_written g.W.Write.contents _ _ _ _ _ done.1 c.in_ok-write_line.ensures.ok,
      text_more (headed head true c.args.text.now) done.0 (headed head true c.loop-rest.rest.now) (head ++ line) (headed head true rest) done.2
          (by_parts head c.loop-rest.rest.now line rest c.line_len.result (c.line_len.ensures.headed head) c.split_at.ensures.front c.split_at.ensures.back),
    )
