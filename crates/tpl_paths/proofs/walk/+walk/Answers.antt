use Rattle.std.proofs.Common.{◌≡◌, ◌==◌, ◌+◌, true, List, [], ◌∷◌, drop, length, None, refl, sym, ap, ◌∙◌, subst, arith}
use Rattle.tpl_model.specs.declared.body.Stmt.{Stmt}
use Rattle.tpl_model.specs.Seen.{statements_of}
use Rattle.tpl_model.specs.Statements.{Nothing}
use Rattle.tpl_model.proofs.Lists.{falls_in}
use Rattle.std.proofs.lemmas.Bool.{eqb-true}
use Rattle.tpl_model.specs.Knowledge.{Reached}
use Rattle.tpl_paths.specs.Gathered.{gathered_of, past_all}
use Rattle.tpl_paths.specs.Reading.{reading_of}
use Rattle.tpl_paths.proofs.GatheredSoFar.{GatheredSoFar, step, both_lists, either_turned}
use Rattle.tpl_paths.proofs.Nowhere.{past_nowhere}
use Rattle.tpl_paths.proofs.walk.+walk.Goals as goal

pub pass_all-pass-requires : goal.pass_all-pass-requires
pass_all-pass-requires t c =
    (omega (arith, c.decreases, falls_in _ _ _ _ c.loop-statement.invariant.whole c.loop-statement-test.true c.statement-item.is), tt)

pub pass_all-loop-statement-preserved : goal.pass_all-loop-statement-preserved
pass_all-loop-statement-preserved t c =
    let w = reading_of c.args.reading.now in
    let items = c.list-statement-items.result.now in
    subst (λ so_far. GatheredSoFar c.args.asked w c.args.body.now items (c.loop-statement.statement-index + 1) (gathered_of c.args.gathered.now) so_far)
    (sym c.pass.ensures)
    (step c.args.asked w c.args.body.now items c.loop-statement.statement-index (gathered_of c.args.gathered.now) (gathered_of c.loop-statement.gathered) c.statement-item.result c.loop-statement-test.true c.statement-item.is c.loop-statement.invariant)

pub pass-returns-in-If : goal.pass-returns-in-If
pass-returns-in-If t c =
    rw (c.pass_either.ensures, c.may_be-on_true.ensures, c.may_be-on_false.ensures, c.in-If.is) refl

pub pass-returns-in-When : goal.pass-returns-in-When
pass-returns-in-When t c =
    rw (c.pass_either-in-When.ensures, c.may_have_ended-so.ensures, c.may_differ-otherwise.ensures, c.in-When.is) refl

pub pass_both-returns : goal.pass_both-returns
pass_both-returns t c =
    let w = reading_of c.args.reading.now in
    both_lists c.args.asked w c.args.first.now c.args.second.now (gathered_of c.args.gathered.now) (gathered_of c.pass_all.new.gathered) (gathered_of c.pass_all-2.new.gathered) (gathered_of c.join.new.self) c.pass_all.ensures
    (c.pass_all-2.ensures
    ∙ ap (λ (r : Reached). past_all c.args.asked w c.args.second.now (record { reached = r; found = None })) c.copy.ensures)
    c.join.ensures

-- a list with no item is no statement
no_statement : (items : List Stmt) → (length items == 0) ≡ true → statements_of items ≡ Nothing
no_statement [] e = refl
no_statement (x ∷ items) e = absurd (omega (arith, eqb-true (length (x ∷ items)) 0 e))

pub pass_either-returns-then-is_empty : goal.pass_either-returns-then-is_empty
pass_either-returns-then-is_empty t c =
    let w = reading_of c.args.reading.now in
    let none = c.list.ensures ∙ no_statement c.list.result.now (sym c.is_empty.ensures ∙ c.if-is_empty.true) in
    rw (c.if-not-is_second.false, c.if-not-is_first.false, none) (c.pass_or_not.ensures ∙ either_turned c.args.asked w c.args.second.now Nothing (gathered_of c.args.gathered.now))

pub pass_all-returns-then-is_nowhere : goal.pass_all-returns-then-is_nowhere
pass_all-returns-then-is_nowhere t c =
    let w = reading_of c.args.reading.now in
    sym (past_nowhere c.args.asked w (statements_of (drop c.loop-statement.statement-index c.list-statement-items.result.now)) (gathered_of c.loop-statement.gathered) (c.is_nowhere.ensures.0 c.if-is_nowhere.true)) ∙ c.loop-statement.invariant.left
