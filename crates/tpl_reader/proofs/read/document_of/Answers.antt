use Rattle.std.proofs.lemmas.Result.{err_from_is_err_and}
use Rattle.std.specs.Option.{option_map}
use Rattle.tpl_draft.specs.SeenTasks.{draft_of}
use Rattle.tpl_reader.specs.SeenDocument.{spelled_of}
use Rattle.tpl_reader.proofs.Refusals.{graph_refused}
use Rattle.tpl_reader.proofs.read.document_of.Goals as goal

pub returns-in_err-graph-clause-err : goal.returns-in_err-graph-clause-err
returns-in_err-graph-clause-err c =
    let p = err_from_is_err_and c.from_residual.result c.from_residual.ensures.1 in
    rw (p.1, p.2) (graph_refused (spelled_of c.args.shaped) c.in_err-graph.field-0.0 c.in_err-graph.ensures.fault)

pub returns-in_err-rest-clause-err : goal.returns-in_err-rest-clause-err
returns-in_err-rest-clause-err c =
    let p = err_from_is_err_and c.from_residual-in_err-rest.result c.from_residual-in_err-rest.ensures.1 in
    rw (p.1, p.2) (c.in_err-rest.ensures.err (draft_of c.args.shaped.draft) (option_map (λ v. v.items) c.args.shaped.times) c.in_ok-graph.ensures.valid c.in_ok-graph.ensures.graph)
