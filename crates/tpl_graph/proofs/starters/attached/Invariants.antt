use Rattle.std.proofs.Common.{◌≡◌, ℕ, List, length, map}
use Rattle.std.specs.Prelude.{slice_get, Some}
use Rattle.tpl_graph.specs.Kept.{EachAt}
use Rattle.tpl_graph.specs.Starters.{numbers, attached_of}
use Rattle.tpl_graph.proofs.starters.attached.Given as goal

abbrev pub invariant-loop-p : goal.invariant-loop-p
invariant-loop-p l = record {
  long : length l.made.items ≡ l.p;
  each : EachAt (λ q children. (list : List ℕ) → slice_get (map numbers l.starts) q ≡ Some list → numbers children ≡ attached_of l.rows q list) l.made.items;
}
