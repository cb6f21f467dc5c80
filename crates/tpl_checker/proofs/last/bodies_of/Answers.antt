use Rattle.std.proofs.Common.{sym, subst, refl, rules}
use Rattle.tpl_checker.specs.declared.bodies.Bodies.{Bodies}
use Rattle.tpl_checker.specs.Assumptions.{assumed_of}
use Rattle.tpl_checker.specs.Bodies.{AreBodies}
use Rattle.tpl_checker.specs.Last.{IsLast}
use Rattle.tpl_checker.proofs.LastLemmas.{same_bodies}
use Rattle.tpl_model.specs.Certificate.{plain}
use Rattle.tpl_checker.proofs.last.bodies_of.Goals as goal

pub returns-then-sees_same-clause-bodies : goal.returns-then-sees_same-clause-bodies
returns-then-sees_same-clause-bodies c =
    let g = c.args.graph.now.graph in
    let before = c.in-Some.before.now in
    let last : IsLast g before = search rules in
    subst (λ (b : Bodies). AreBodies g (assumed_of c.args.assumed.now) (plain c.args.rows.now) b) (sym c.copy.ensures)
    (same_bodies g (assumed_of before.assumed) (assumed_of c.args.assumed.now) (plain before.rows.now) (plain c.args.rows.now) before.bodies (c.if-sees_same.ensures refl) last.bodies)
