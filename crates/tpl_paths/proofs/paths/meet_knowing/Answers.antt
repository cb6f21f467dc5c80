use Rattle.std.proofs.Common.{◌&&◌, Some, ap, ◌∙◌}
use Rattle.tpl_model.specs.Knowledge.{Knowledge}
use Rattle.tpl_paths.specs.Knowledge.{knowledge_of}
use Rattle.tpl_paths.proofs.paths.meet_knowing.Goals as goal

pub returns-in-None-paths : goal.returns-in-None-paths
returns-in-None-paths c = rw (c.in-Some.is, c.in-None-paths.is) (ap Some c.knowing.ensures)

pub returns-in-Some-paths : goal.returns-in-Some-paths
returns-in-Some-paths c =
    let known = knowledge_of c.in-Some-paths.known in
    rw (c.in-Some.is, c.in-Some-paths.is)
    (ap Some
    (c.narrow.ensures
    ∙ ap (λ (o : Knowledge). let k : Knowledge = record { requested = λ k. known.requested k && o.requested k; later = λ f. known.later f && o.later f } in k) c.knowing-other.ensures))
