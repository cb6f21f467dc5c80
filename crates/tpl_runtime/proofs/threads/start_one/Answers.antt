use Rattle.std.proofs.Common.{map}
use Rattle.tpl_runtime.specs.Workers.{HasWorked}
use Rattle.tpl_runtime.proofs.OrderLemmas.{first_longer, second_longer}
use Rattle.tpl_runtime.proofs.WorkLemmas.{all_more}
use Rattle.tpl_runtime.proofs.threads.start_one.Goals as goal

pub returns-in-Err-clause-worked : goal.returns-in-Err-clause-worked
returns-in-Err-clause-worked g c =
    let s = g.C.Crew.session c.args.crew.now in
    all_more (λ d. HasWorked s.graph.graph s.inputs d.0 d.1) c.args.done.now.items c.push_reserved-in-Err.new.self.items _ c.push_reserved-in-Err.ensures.items c.requires.worked c.in-Err.ensures.worked

pub returns-in-Ok-clause-everyone : goal.returns-in-Ok-clause-everyone
returns-in-Ok-clause-everyone g c =
    second_longer (λ h. h.promise.actor) (map (λ d. d.0.actor) c.args.done.now.items) c.args.children.now.items c.push_reserved.new.self.items c.in-Ok.child c.args.seat.actor c.push_reserved.ensures.items c.in-Ok.ensures.actor

pub returns-in-Err-clause-everyone : goal.returns-in-Err-clause-everyone
returns-in-Err-clause-everyone g c =
    first_longer (λ d. d.0.actor) c.args.done.now.items c.push_reserved-in-Err.new.self.items (c.in-Err.back.0, c.in-Err.back.2) c.args.seat.actor (map (λ h. h.promise.actor) c.args.children.now.items) c.push_reserved-in-Err.ensures.items c.in-Err.ensures.same
