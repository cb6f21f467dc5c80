use Rattle.std.proofs.Common.{◌<◌, ◌≤◌, length, ◌∙◌, arith}
use Rattle.tpl_model.proofs.Levels.{settled_first, settled_long}
use Rattle.tpl_model.proofs.cursor.Cursor.first.Goals as goal

pub returns : goal.returns
returns c =
    let some : 0 < c.settled-depth.result = omega arith in
    let fits : c.settled-depth.result ≤ length c.self.inside.levels = omega (arith, c.self.invariant.0) in
    settled_first c.self.inside.levels c.settled-depth.result c.index-levels-depth.result c.index-list-0.result c.args.self.now some fits c.index-levels-depth.is
    (c.settled-depth.ensures.same ∙ c.self.view_is)
    (settled_long c.self.inside.levels c.settled-depth.result c.index-levels-depth.result some fits c.index-levels-depth.is c.settled-depth.ensures.some)
    c.index-list-0.is
