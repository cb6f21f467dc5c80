-- A tree is a node with trees inside, however deep its value nests.
use Rattle.std.proofs.Common.{◌≡◌, ℕ, zero, suc, ◌<◌, List, Option, Some, None, codes, refl, arith}
use Rattle.serde_json.specs.Data.{Data, depth}
use Rattle.serde_json.specs.Find.{get}
use Rattle.tpl_json.specs.Members.{◌>>=◌}
use Rattle.tpl_json.proofs.Json.{member_lower}
use Rattle.tpl_cert.specs.NamedTrees.{NamedTree}
use Rattle.tpl_model.specs.declared.rule_set.RuleSet.{RuleSet}
use Rattle.tpl_cert.specs.Reading.{input_at, end_at, winner_at, node_at, tree_at, whole_tree}

same_inside : (o : Option Data) (f g : Data → Option NamedTree) → ((x : Data) → o ≡ Some x → f x ≡ g x) → (o >>= f) ≡ (o >>= g)
same_inside None f g h = refl
same_inside (Some x) f g h = h x refl

-- a node with the same trees inside
same_node : (rules : RuleSet) (d : Data) (f g : Data → Option NamedTree) → ((name : List ℕ) (x : Data) → get name d ≡ Some x → f x ≡ g x) → node_at rules f d ≡ node_at rules g d
unfolding node_at input_at end_at winner_at
same_node rules d f g h =
    let inside : (name : List ℕ) → (get name d >>= f) ≡ (get name d >>= g) = λ name. same_inside (get name d) f g (h name) in
    rw (inside (codes "yes"), inside (codes "no"), inside (codes "ran"), inside (codes "canceled"), inside (codes "faulted")) refl

-- more depth than there is makes no difference
deep_enough : (rules : RuleSet) (n m : ℕ) (d : Data) → depth d < n → depth d < m → tree_at rules n d ≡ tree_at rules m d
unfolding tree_at
deep_enough rules zero m d lt also = absurd (omega arith)
deep_enough rules (suc n) zero d lt also = absurd (omega arith)
deep_enough rules (suc n) (suc m) d lt also =
    same_node rules d (tree_at rules n) (tree_at rules m) (λ name x is. let lower = member_lower name d x is in deep_enough rules n m x (omega arith) (omega arith))

pub whole_tree-node : (rules : RuleSet) (d : Data) → whole_tree rules d ≡ node_at rules (whole_tree rules) d
unfolding whole_tree tree_at
whole_tree-node rules d =
    same_node rules d (tree_at rules (depth d)) (whole_tree rules) (λ name x is. let lower = member_lower name d x is in deep_enough rules (depth d) (suc (depth x)) x (omega arith) (omega arith))
