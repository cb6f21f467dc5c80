use Rattle.std.proofs.Common.{◌<◌, ◌≤◌, length, sym, ap, ◌∙◌, arith}
use Rattle.std.proofs.lemmas.List.{length-set}
use Rattle.tpl_model.specs.Seen.{statement_of, statements_of}
use Rattle.tpl_model.specs.Statements.{followed_by}
use Rattle.tpl_model.specs.Cursor.{behind}
use Rattle.tpl_model.proofs.Levels.{passed, passed_fits, settled_first, settled_long, tail_is, no_choice, choice_made, room_for, entered, entered_fits, below_eight}
use Rattle.tpl_model.proofs.cursor.Cursor.enter.Goals as goal

pub invariant_of-self : goal.invariant_of-self
invariant_of-self c =
    passed_fits c.self.inside.levels c.self.inside.depth c.settled-depth.result c.index-levels-depth.result _ (omega arith) c.settled-depth.ensures.within c.self.told c.index-levels-depth.is (tail_is c.index-levels-depth.result.now) c.self.invariant

pub returns-in_default : goal.returns-in_default
returns-in_default c =
    let some : 0 < c.settled-depth.result = omega arith in
    let fits : c.settled-depth.result ≤ length c.self.inside.levels = omega (arith, c.self.invariant.0) in
    let long : 0 < length c.index-levels-depth.result.now = settled_long c.self.inside.levels c.settled-depth.result c.index-levels-depth.result some fits c.index-levels-depth.is c.settled-depth.ensures.some in
    passed c.self.inside.levels c.settled-depth.result c.index-levels-depth.result _ some fits c.index-levels-depth.is long (tail_is c.index-levels-depth.result.now)
    ∙ (ap behind (c.settled-depth.ensures.same ∙ c.self.view_is)
    ∙ no_choice c.args.self.now (statement_of c.index-list-0.result) c.args.first
    (settled_first c.self.inside.levels c.settled-depth.result c.index-levels-depth.result c.index-list-0.result c.args.self.now some fits c.index-levels-depth.is (c.settled-depth.ensures.same ∙ c.self.view_is) long c.index-list-0.is)
    c.in_default.ensures.list)

pub bounds-slots-depth-3 : goal.bounds-slots-depth-3
bounds-slots-depth-3 c =
    let room = room_for c.self.inside.levels c.self.inside.depth c.settled-depth.result c.index-levels-depth.result c.index-list-0.result _ (statements_of c.list-inner.result.now) (omega arith) c.settled-depth.ensures.within c.self.told c.index-levels-depth.is c.settled-depth.ensures.some c.index-list-0.is c.list-inner.ensures c.in-Some.ensures.nested c.self.invariant in
    rw length-set (omega (arith, below_eight _ _ room))

pub invariant_of-self-2 : goal.invariant_of-self-2
invariant_of-self-2 c =
    let room = room_for c.self.inside.levels c.self.inside.depth c.settled-depth.result c.index-levels-depth.result c.index-list-0.result _ (statements_of c.list-inner.result.now) (omega arith) c.settled-depth.ensures.within c.self.told c.index-levels-depth.is c.settled-depth.ensures.some c.index-list-0.is c.list-inner.ensures c.in-Some.ensures.nested c.self.invariant in
    entered_fits _ c.settled-depth.result c.list-inner.result (rw length-set (omega (arith, below_eight _ _ room))) room
    (passed_fits c.self.inside.levels c.self.inside.depth c.settled-depth.result c.index-levels-depth.result _ (omega arith) c.settled-depth.ensures.within c.self.told c.index-levels-depth.is (tail_is c.index-levels-depth.result.now) c.self.invariant)

pub returns : goal.returns
returns c =
    let some : 0 < c.settled-depth.result = omega arith in
    let fits : c.settled-depth.result ≤ length c.self.inside.levels = omega (arith, c.self.invariant.0) in
    let long : 0 < length c.index-levels-depth.result.now = settled_long c.self.inside.levels c.settled-depth.result c.index-levels-depth.result some fits c.index-levels-depth.is c.settled-depth.ensures.some in
    let room = room_for c.self.inside.levels c.self.inside.depth c.settled-depth.result c.index-levels-depth.result c.index-list-0.result _ (statements_of c.list-inner.result.now) (omega arith) c.settled-depth.ensures.within c.self.told c.index-levels-depth.is c.settled-depth.ensures.some c.index-list-0.is c.list-inner.ensures c.in-Some.ensures.nested c.self.invariant in
    entered _ c.settled-depth.result c.list-inner.result (rw length-set (omega (arith, below_eight _ _ room)))
    ∙ (ap (followed_by (statements_of c.list-inner.result.now))
    (passed c.self.inside.levels c.settled-depth.result c.index-levels-depth.result _ some fits c.index-levels-depth.is long (tail_is c.index-levels-depth.result.now)
    ∙ ap behind (c.settled-depth.ensures.same ∙ c.self.view_is))
    ∙ choice_made c.args.self.now (statements_of c.list-inner.result.now) (statement_of c.index-list-0.result) c.args.first
    (settled_first c.self.inside.levels c.settled-depth.result c.index-levels-depth.result c.index-list-0.result c.args.self.now some fits c.index-levels-depth.is (c.settled-depth.ensures.same ∙ c.self.view_is) long c.index-list-0.is)
    (sym c.list-inner.ensures ∙ c.in-Some.ensures.list))
