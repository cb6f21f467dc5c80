use Rattle.std.proofs.lemmas.Result.{err_from_is_err_and}
use Rattle.tpl_journal.proofs.PartLemmas.{stopped, then_text}
use Rattle.tpl_each.proofs.writing.write_line.Goals as goal

pub returns-in_err-write_all : goal.returns-in_err-write_all
returns-in_err-write_all g c =
    let p = err_from_is_err_and c.from_residual.result c.from_residual.ensures.1 in
    stopped g.W.Write.contents _ _ _ _ c.from_residual.result p.0 p.1 (rw c.as_bytes.ensures.value at c.in_err-write_all.ensures.err)

pub returns : goal.returns
returns g c =
    then_text g.W.Write.contents _ _ _ _ _ _ (rw c.as_bytes.ensures.value at c.in_ok-write_all.ensures.ok) c.write_all-2.ensures
