use Rattle.std.proofs.Common.{◌&&◌, ap, ◌∙◌, sym, subst}
use Rattle.tpl_laws.proofs.Settling.{attached_child}
use Rattle.tpl_model.specs.declared.finals.Final.TheVariants.{Faulted}
use Rattle.tpl_model.specs.Finals.{has}
use Rattle.tpl_model.specs.Members.{mem}
use Rattle.tpl_model.specs.Recursion.{reaches}
use Rattle.tpl_model.specs.Graph.{attached, body, some_in}
use Rattle.tpl_model.specs.Certificate.{row, view, plain}
use Rattle.tpl_graph.specs.Roles.{AreTasks}
use Rattle.tpl_checker.proofs.Basics.{some_in_same}
use Rattle.tpl_checker.proofs.ChildLemmas.{attached_within}
use Rattle.tpl_checker.proofs.BodyLemmas.{started_of}
use Rattle.tpl_checker.proofs.ends.child_may_fault.Goals as goal

pub some_faults-requires : goal.some_faults-requires
some_faults-requires c =
    subst (λ n. AreTasks n c.attached.result.now) (sym c.requires.rows) (attached_within c.args.graph.now.graph c.args.task.0 c.attached.result.now c.valid_law.ensures.graph c.attached.ensures)

pub returns : goal.returns
returns c l b =
    let g = c.args.graph.now.graph in
    let rows = (plain c.args.rows.now) in
    let t = c.args.task.0 in
    c.some_faults.ensures
    ∙ (ap (λ xs. some_in (λ x. mem x c.args.bodies.now.started && has (row rows x).ends Faulted) xs) c.attached.ensures
    ∙ some_in_same (λ x. mem x c.args.bodies.now.started && has (row rows x).ends Faulted) (λ x. reaches x (view g l rows t) (body g t) && has (row rows x).ends Faulted) (attached g t)
    (λ x m. ap (λ z. z && has (row rows x).ends Faulted) (started_of g l rows c.args.bodies.now b t x (attached_child g t x m))))
