-- Plans of plans.
use Rattle.std.proofs.Common.{◌≡◌, ℕ, ◌+◌, ◌<◌, ◌≤◌, subst, sym, arith}
use Rattle.tpl_model.specs.Graph.{TaskGraph, is_task}
use Rattle.tpl_model.specs.Certificate.{Tree, OnInput, OnEnd, OnWinner, LeastLeaf}
use Rattle.tpl_analyser.specs.Plans.{IsPlan}

pub plan_deeper : (g : TaskGraph) (n m : ℕ) (t : Tree) → n ≤ m → IsPlan g n t → IsPlan g m t
plan_deeper g n m t le p = record { splits = p.splits; height = omega (arith, p.height); rows = p.rows }

pub no_split_plan : (g : TaskGraph) (n : ℕ) (t : Tree) → t ≡ LeastLeaf → IsPlan g n t
no_split_plan g n t e = subst (λ (z : Tree). IsPlan g n z) (sym e) (record { splits = tt; height = omega arith; rows = tt })

pub input_is_plan : (g : TaskGraph) (n m : ℕ) (i : ℕ) (a b : Tree) → n + 1 ≡ m → i < g.inputs → IsPlan g n a → IsPlan g n b → IsPlan g m (OnInput i a b)
input_is_plan g n m i a b more lt p q = record { splits = (lt, p.splits, q.splits); height = omega (arith, p.height, q.height); rows = (p.rows, q.rows) }

pub end_is_plan : (g : TaskGraph) (n m : ℕ) (t : ℕ) (a b c : Tree) → n + 1 ≡ m → is_task g t → IsPlan g n a → IsPlan g n b → IsPlan g n c → IsPlan g m (OnEnd t a b c)
end_is_plan g n m t a b c more is p q r = record { splits = (is, p.splits, q.splits, r.splits); height = omega (arith, p.height, q.height, r.height); rows = (p.rows, q.rows, r.rows) }

pub winner_is_plan : (g : TaskGraph) (n m : ℕ) (t x : ℕ) (a b : Tree) → n + 1 ≡ m → IsPlan g n a → IsPlan g n b → IsPlan g m (OnWinner t x a b)
winner_is_plan g n m t x a b more p q = record { splits = (p.splits, q.splits); height = omega (arith, p.height, q.height); rows = (p.rows, q.rows) }
