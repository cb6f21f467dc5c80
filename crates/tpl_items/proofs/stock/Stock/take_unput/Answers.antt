use Rattle.std.proofs.Common.{◌≡◌, ◌∙◌, ℕ, ◌+◌, ◌<◌, Bool, true, false, cond, List, get_or, length, set, sym, arith}
use Rattle.std.proofs.lemmas.List.Sums.{sum_by-set}
use Rattle.tpl_items.specs.Stock.{unput_count}
use Rattle.tpl_items.proofs.stock.Stock.take_unput.Goals as goal

-- a job that is put is one less of those that weren't
one_less : (unput : List Bool) (task : ℕ) (waits : Bool) → task < length unput → waits ≡ get_or unput task waits → waits ≡ true → unput_count (set unput task false) + 1 ≡ unput_count unput
one_less unput task waits within read is =
    let one : get_or unput task waits ≡ true = sym read ∙ is in
    let counts : unput_count (set unput task false) + cond (get_or unput task waits) 1 0 ≡ unput_count unput + 0 = sum_by-set (λ u. cond u 1 0) unput task false waits within in
    omega (arith, rw one at counts)

pub returns-clause-place : goal.returns-clause-place
returns-clause-place g c =
    let within : c.args.task < length c.self.inside.unput.items = omega (arith, c.self.inside.unput.ok) in
    let less = one_less c.self.inside.unput.items c.args.task c.index.result.now within c.index.ensures c.if-not-index.false in
    (omega (arith, c.self.invariant.0, c.self.inside.kept.ok, less), omega (arith, c.self.invariant.1, c.self.inside.shelf.ok, less))
