use Rattle.std.proofs.Common.{◌≡◌, ◌<◌, ℕ}
use Rattle.tpl_model.specs.declared.finals.Final.{Final}
use Rattle.tpl_model.specs.Graph.{kind}
use Rattle.tpl_model.specs.Certificate.{subject_set, plain}
use Rattle.tpl_checker.proofs.last.sees_same.Given as goal

abbrev pub invariant-loop-number : goal.invariant-loop-number
invariant-loop-number l =
    (t : ℕ) → t < l.number → (f : Final) → subject_set l.graph.graph (plain l.last.rows.now) t (kind l.graph.graph t) f ≡ subject_set l.graph.graph (plain l.rows) t (kind l.graph.graph t) f
