use Rattle.std.proofs.Common.{◌+◌, ◌*◌, ◌^◌, ◌<◌, ℕ, refl, sym, ap, ◌∙◌, arith, rules}
use Rattle.std.specs.Prelude.{slice_index}
use Rattle.std.specs.Int.{trailing_zeros, w64}
use Rattle.tpl_model.specs.TaskSet.{is_set}
use Rattle.tpl_fast.proofs.BitLemmas.{first_set, all_unset}
use Rattle.tpl_fast.proofs.bits.Bits.first.Goals as goal

pub returns-then-word-ne0-clause-some : goal.returns-then-word-ne0-clause-some
returns-then-word-ne0-clause-some c =
    let words = c.self.inside.words in
    let fits : slice_index words c.loop-i.i < 2 ^ 64 = search rules in
    let some : 0 < slice_index words c.loop-i.i = grind (arith, c.if-word-ne0.true) in
    let t : ℕ = 64 * c.loop-i.i + trailing_zeros w64 (slice_index words c.loop-i.i) in
    let found = first_set words c.loop-i.i t fits some c.loop-i.invariant refl in
    (ap (λ ws. is_set ws t) (sym c.self.view_is) ∙ found.0, λ s lt. ap (λ ws. is_set ws s) (sym c.self.view_is) ∙ found.1 s lt)

pub returns-clause-none : goal.returns-clause-none
returns-clause-none c s =
    ap (λ ws. is_set ws s) (sym c.self.view_is)
    ∙ all_unset c.self.inside.words c.loop-i.i (let e = c.self.told in let le = c.loop-i-test.false in omega arith) c.loop-i.invariant s
