use Rattle.std.proofs.Common.{◌≡◌, ℕ, length, get_or}
use Rattle.tpl_draft.specs.declared.starter.Starter.TheVariants.{Nobody}
use Rattle.tpl_graph.proofs.starters.nobody.Given as goal

abbrev pub invariant-loop : goal.invariant-loop
invariant-loop l = record {
  long : length l.table.items ≡ l.counter;
  none : (t : ℕ) → get_or l.table.items t Nobody ≡ Nobody;
}
