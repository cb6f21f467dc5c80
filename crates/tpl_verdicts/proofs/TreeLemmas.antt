-- The certificate of one claim, as an array of one value.
use Rattle.std.proofs.Common.{◌≡◌, ℕ, List, [], ◌∷◌, ◌++◌, length, map, ap, refl, arith}
use Rattle.serde_json.specs.Data.{Data, array}
use Rattle.serde_json.specs.View.{items_of, items_view, view}
use Rattle.serde_json.specs.declared.value.Value.{Value}
use Rattle.tpl_model.specs.Certificate.{Tree}
use Rattle.tpl_trees.specs.Heights.{height}

-- a certificate with the height of one tree has one tree
pub one_tree : (trees : List Tree) (n : ℕ) → map height trees ≡ n ∷ [] → (tree : Tree) × (trees ≡ tree ∷ [])
one_tree [] n heights =
    let same : length (map height []) ≡ 1 = ap length heights in absurd (omega (arith, same))
one_tree (tree ∷ []) n heights = (tree, refl)
one_tree (tree ∷ other ∷ trees) n heights =
    let same : length (map height (tree ∷ other ∷ trees)) ≡ 1 = ap length heights in absurd (omega (arith, same))

-- an array of one value
pub one_value : (vs : List Value) (first : Data) → array (items_view vs) ≡ array (items_of (first ∷ [])) → (v : Value) × (vs ≡ v ∷ []) × (view v ≡ first)
one_value [] first e = absurd cc
one_value (v ∷ []) first e = (v, refl, cc)
one_value (v ∷ w ∷ vs) first e = absurd cc

-- the last of one thing
pub last_of : {X : Type 0} (front : List X) (last x : X) → front ++ last ∷ [] ≡ x ∷ [] → last ≡ x
last_of [] last x e = cc
last_of (y ∷ []) last x e = absurd cc
last_of (y ∷ z ∷ front) last x e = absurd cc
