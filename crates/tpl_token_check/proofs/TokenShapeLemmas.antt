-- Trees that fit, and how many leaves they have.
use Rattle.std.proofs.Common.{ℕ, zero, suc, ◌≤◌, refl, arith}
use Rattle.tpl_model.specs.Graph.{TaskGraph}
use Rattle.tpl_model.specs.Certificate.{Tree, OnInput, OnEnd, OnWinner, RowsLeaf, LeastLeaf}
use Rattle.tpl_trees.specs.Heights.{height}
use Rattle.tpl_laws.specs.Verdict.{leaves}
use Rattle.tpl_laws.specs.TokenVerdict.{token_fits, token_misfit}
use Rattle.tpl_checker.proofs.ShapeLemmas.{FindsMisfits, most_leaves, one_leaf}

pub finds_token_misfits : (g : TaskGraph) → FindsMisfits (token_fits g) (token_misfit g)
finds_token_misfits g = record { no_tree = λ n c cs. refl; no_claim = λ n t ts. refl; next = λ n c cs t ts. refl }

leaves_within : (n : ℕ) (t : Tree) → height t ≤ n → leaves t ≤ most_leaves n
leaves_within n (RowsLeaf rows) le = one_leaf n
leaves_within n LeastLeaf le = one_leaf n
leaves_within zero (OnInput i a b) le = absurd (omega arith)
leaves_within zero (OnEnd t a b c) le = absurd (omega arith)
leaves_within zero (OnWinner n x a b) le = absurd (omega arith)
leaves_within (suc n) (OnInput i a b) le = omega (arith, leaves_within n a (omega arith), leaves_within n b (omega arith))
leaves_within (suc n) (OnEnd t a b c) le = omega (arith, leaves_within n a (omega arith), leaves_within n b (omega arith), leaves_within n c (omega arith))
leaves_within (suc n) (OnWinner m x a b) le = omega (arith, leaves_within n a (omega arith), leaves_within n b (omega arith))

pub at_most_729_leaves : (t : Tree) → height t ≤ 6 → leaves t ≤ 729
at_most_729_leaves t le = leaves_within 6 t le
