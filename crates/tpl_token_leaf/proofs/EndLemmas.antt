-- The ends that a row has to have.
use Rattle.std.proofs.Common.{◌≡◌, ℕ, ◌&&◌, not, Bool, true, false, refl, sym, ap, ◌∙◌, arith}
use Rattle.tpl_model.proofs.Truths.{and_true}
use Rattle.tpl_model.specs.declared.finals.Final.{Final}
use Rattle.tpl_model.specs.declared.finals.Final.TheVariants.{RanToCompletion, Canceled, Faulted}
use Rattle.tpl_model.specs.declared.finals.Finals.{Finals}
use Rattle.tpl_model.specs.Finals.{has, is_final}
use Rattle.tpl_model.specs.Knowledge.{Fact}
use Rattle.tpl_model.specs.Graph.{TaskKind, Root, Child, Continues, WhenAll, WhenAny, kind, some_in}
use Rattle.tpl_model.specs.Certificate.{row, end_left, may_end, plain}
use Rattle.tpl_model.specs.TokenRules.{Way, way_final}
use Rattle.tpl_laws.specs.RowTests.{all_may_end, each_end, implies}
use Rattle.tpl_laws.specs.TokenTests.{each_way, token_ends_by}
use Rattle.tpl_token_leaf.specs.declared.leaf.Leaf.{Leaf}
use Rattle.tpl_token_leaf.specs.declared.ways.Ways.{Ways}
use Rattle.tpl_token_leaf.specs.Leaf.{graph_of, assumed_in, rows_in}
use Rattle.tpl_token_leaf.specs.LeafRules.{has_to_end_as, holds_as, AreLeft}
use Rattle.tpl_token_leaf.specs.Ways.{AreWays}

-- all ends but this one
abbrev all_but : Final → Finals
all_but f = record { ran = not (is_final RanToCompletion f); canceled = not (is_final Canceled f); faulted = not (is_final Faulted f) }

has_all_but : (f e : Final) → has (all_but f) e ≡ not (is_final e f)
has_all_but f RanToCompletion = refl
has_all_but f Canceled = refl
has_all_but f Faulted = refl

only_first : (a b c : Bool) → (implies a false && (implies b true && implies c true)) ≡ not a
only_first a b c = grind arith

only_second : (a b c : Bool) → (implies a true && (implies b false && implies c true)) ≡ not b
only_second a b c = grind arith

only_third : (a b c : Bool) → (implies a true && (implies b true && implies c false)) ≡ not c
only_third a b c = grind arith

but_one : (f : Final) (ends : Finals) → each_end (λ e. implies (has ends e) (has (all_but f) e)) ≡ not (has ends f)
but_one RanToCompletion ends = only_first ends.ran ends.canceled ends.faulted
but_one Canceled ends = only_second ends.ran ends.canceled ends.faulted
but_one Faulted ends = only_third ends.ran ends.canceled ends.faulted

twice : (b : Bool) → b ≡ not (not b)
twice b = grind arith

-- the ends of the ways are those that some way ends in
pub ends_are : (each : (Way → Bool) → Bool) (holds : Fact → Way → Bool) (w : Ways) → AreWays each holds w → (f : Final) → has w.ends f ≡ not (each (λ way. not (is_final (way_final way) f)))
ends_are each holds w a f =
    twice (has w.ends f) ∙ ap not (sym (but_one f w.ends) ∙ (sym (a.ends (all_but f)) ∙ (λ i. each (λ way. has_all_but f (way_final way) i))))

-- one test after the other, in the other order
implies_after : (a b o : Bool) → implies (a && b) o ≡ implies b (implies a o)
implies_after a b o = grind arith

-- how a task ends by its row
abbrev own_ends : Leaf → ℕ → Finals
own_ends leaf t = (row (plain (rows_in leaf)) t).ends

-- a row has the ends that it has to have just where it keeps K2
module _ (leaf : Leaf) (t : ℕ) (w : Ways) (are : AreLeft leaf t w) where
  pub ends_left : (f : Final) → has w.ends f ≡ not (each_way (graph_of leaf) (assumed_in leaf) (rows_in leaf) t (λ way. not (is_final (way_final way) f)))
  ends_left = ends_are (each_way (graph_of leaf) (assumed_in leaf) (rows_in leaf) t) (holds_as leaf t (kind (graph_of leaf) t)) w are

  demands_ways : each_end (λ f. implies (not (each_way (graph_of leaf) (assumed_in leaf) (rows_in leaf) t (λ way. not (is_final (way_final way) f)))) (has (own_ends leaf t) f))
      ≡ each_way (graph_of leaf) (assumed_in leaf) (rows_in leaf) t (λ way. has (own_ends leaf t) (way_final way))
  demands_ways = (λ i. each_end (λ f. implies (sym (ends_left f) i) (has (own_ends leaf t) f))) ∙ sym (are.ends (own_ends leaf t))

  pub demands : (k : TaskKind) → each_end (λ f. implies (has_to_end_as leaf t k f) (has (own_ends leaf t) f)) ≡ token_ends_by (graph_of leaf) (assumed_in leaf) (rows_in leaf) t k
  demands Root = demands_ways
  demands Child = demands_ways
  demands (Continues a) = demands_ways
  demands (WhenAll args) = λ i. each_end (λ f. implies_after (all_may_end (plain (rows_in leaf)) args f) (end_left (assumed_in leaf).assumed t f) (has (own_ends leaf t) f) i)
  demands (WhenAny args) =
      and_true (implies (some_in (may_end (plain (rows_in leaf))) args && end_left (assumed_in leaf).assumed t RanToCompletion) (has (own_ends leaf t) RanToCompletion))
      ∙ implies_after (some_in (may_end (plain (rows_in leaf))) args) (end_left (assumed_in leaf).assumed t RanToCompletion) (has (own_ends leaf t) RanToCompletion)
