use Rattle.std.proofs.Common.{◌≡◌, ◌+◌, ◌&&◌, suc, false, ap, sym, ◌∙◌, arith}
use Rattle.tpl_model.proofs.Truths.{and_true, or_false}
use Rattle.tpl_model.specs.Members.{mem}
use Rattle.tpl_laws.specs.RowTests.{takes_over}
use Rattle.tpl_token_leaf.specs.Leaf.{graph_of}
use Rattle.tpl_token_check.proofs.ReaderLemmas.{and_turned, one_below}
use Rattle.tpl_token_check.proofs.readers.taken_over.Goals.{then-contains, else-contains}
use Rattle.tpl_token_check.proofs.readers.taken_over.Goals as goal

pub loop-number-preserved : goal.loop-number-preserved
loop-number-preserved c =
    let g = graph_of c.args.leaf.now in
    let i = c.loop-number.number in
    let next : i + 1 ≡ suc i = omega arith in
    elim c.if-contains.branch [
      | then-contains w ↦
          rw w.taken-is
          (λ y. w.union-taken.ensures.members y
          ∙ one_below (λ x. takes_over g x y && mem x c.args.takers.now) i (i + 1) (mem y w.taken_by.result) (mem y c.loop-number.taken) next
          (w.taken_by.ensures y ∙ (sym (and_true (takes_over g i y)) ∙ ap (λ z. takes_over g i y && z) (sym w.if-contains.true ∙ c.contains.ensures.member))) (c.loop-number.invariant y))
      | else-contains w ↦
          rw w.taken-is
          (λ y. sym (or_false (mem y c.loop-number.taken))
          ∙ one_below (λ x. takes_over g x y && mem x c.args.takers.now) i (i + 1) false (mem y c.loop-number.taken) next
          (and_turned false (takes_over g i y) ∙ ap (λ z. takes_over g i y && z) (sym w.if-contains.false ∙ c.contains.ensures.member)) (c.loop-number.invariant y))
    ]
