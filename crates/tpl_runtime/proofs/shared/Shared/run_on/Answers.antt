use Rattle.std.proofs.Common.{◌≡◌, ◌∙◌, map, refl, rules, sym, subst}
use Rattle.tpl_model.specs.Graph.{is_task}
use Rattle.tpl_machine.specs.Journal.{Journal}
use Rattle.tpl_machine.specs.Reading.{next}
use Rattle.tpl_run.specs.declared.run.Next.TheVariants.{Work}
use Rattle.tpl_runtime.specs.Turns.{MayPass}
use Rattle.tpl_runtime.proofs.TurnLemmas.{has_item, still}
use Rattle.tpl_runtime.proofs.shared.Shared.run_on.Goals as goal

pub returns-in-Some : goal.returns-in-Some
returns-in-Some g c =
    let j = c.args.self.now.hall.core in
    let items = c.args.self.now.stock.items in
    let taken = c.in-Some.ensures.taken in
    let task : is_task j.graph c.args.task.0 = search rules in
    let is : next j.graph j.inputs j.events c.args.task.0 ≡ Work c.in-Work.site =
    subst (λ (k : Journal). next k.graph k.inputs k.events c.args.task.0 ≡ Work c.in-Work.site) c.core-core.ensures (sym c.next.ensures ∙ c.in-Work.is) in
    record {
      proceeds = still _ _ _ _ refl refl refl refl;
      turns = (
        (task, subst (λ n. MayPass n j c.args.kit.now.seat c.args.task (map g.W.Item.site items)) (sym is) (has_item g.W.Item.site items taken.0 c.in-Some.item c.in-Work.site.0 taken.1 c.in-Some.ensures.site)),
        refl,
      );
    }
