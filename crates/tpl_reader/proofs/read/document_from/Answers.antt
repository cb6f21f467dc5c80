use Rattle.std.proofs.lemmas.Result.{err_from_is_err_and}
use Rattle.tpl_json.specs.View.{view}
use Rattle.tpl_reader.proofs.Refusals.{misshapen}
use Rattle.tpl_reader.proofs.read.document_from.Goals as goal

pub returns-in_err-shaped-clause-err : goal.returns-in_err-shaped-clause-err
returns-in_err-shaped-clause-err c =
    let p = err_from_is_err_and c.from_residual.result c.from_residual.ensures.1 in
    rw (p.1, p.2) (λ bytes le reads. misshapen bytes (view c.args.value.now) le reads c.in_err-shaped.field-0.0 c.in_err-shaped.ensures)
