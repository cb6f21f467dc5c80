use Rattle.std.proofs.Common.{◌<◌, ◌≤◌, length, ap, ◌∙◌, arith}
use Rattle.tpl_model.specs.Cursor.{behind}
use Rattle.tpl_model.proofs.Levels.{passed, passed_fits, settled_long, tail_is}
use Rattle.tpl_model.proofs.cursor.Cursor.pass.Goals as goal

pub invariant_of-self : goal.invariant_of-self
invariant_of-self c =
    passed_fits c.self.inside.levels c.self.inside.depth c.settled-depth.result c.index-levels-depth.result _ (omega arith) c.settled-depth.ensures.within c.self.told c.index-levels-depth.is (tail_is c.index-levels-depth.result.now) c.self.invariant

pub returns : goal.returns
returns c =
    let some : 0 < c.settled-depth.result = omega arith in
    let fits : c.settled-depth.result ≤ length c.self.inside.levels = omega (arith, c.self.invariant.0) in
    passed c.self.inside.levels c.settled-depth.result c.index-levels-depth.result _ some fits c.index-levels-depth.is
    (settled_long c.self.inside.levels c.settled-depth.result c.index-levels-depth.result some fits c.index-levels-depth.is c.settled-depth.ensures.some)
    (tail_is c.index-levels-depth.result.now)
    ∙ ap behind (c.settled-depth.ensures.same ∙ c.self.view_is)
