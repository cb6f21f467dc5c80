use Rattle.std.proofs.Common.{◌∙◌, sym, ap}
use Rattle.tpl_model.specs.Graph.{kind}
use Rattle.tpl_draft.specs.Named.{Named, antecedent_of}
use Rattle.tpl_hall.proofs.BoundLemmas.{bound_at, is_bound}
use Rattle.tpl_hall.proofs.hall.Hall.bound_to.Goals as goal

pub returns : goal.returns
returns g c =
    let hall = c.args.self.now in
    let j = hall.core in
    let t = c.args.task.0 in
    c.worker_at.ensures
    ∙ bound_at j.graph j.inputs j.events hall.journal.items t (kind j.graph t) c.in_ok-antecedent.antecedent.0 c.in_ok-ended.field-0
    (c.in_ok-antecedent.ensures ∙ ap (λ (n : Named). antecedent_of (kind n.graph t)) c.graph.ensures)
    (sym {b = is_bound j.graph t c.in_ok-antecedent.antecedent.0} c.is_synchronous.ensures ∙ c.if-not-is_synchronous.false) hall.same c.in_ok-ended.ensures
