-- Claims whose tasks stand for others.
use Rattle.std.proofs.Common.{◌≡◌, Option, Some, arith}
use Rattle.tpl_model.specs.declared.claim.Property.{Property}
use Rattle.tpl_model.specs.Claims.{AreAll, named_tasks, property_map, try_map}

-- what is looked up for another claim's tasks is looked up for these by way of the others
pub try_map_map : {A B C : Type 0} (f : B → Option C) (g : A → B) (p : Property A) → try_map f (property_map g p) ≡ try_map (λ x. f (g x)) p
try_map_map = grind arith

-- what is true of all that is looked up is true of each task of the claim that is found
pub try_map_all : {A B : Type 0} (f : A → Option B) (P : B → Type 0) → ((x : A) (y : B) → f x ≡ Some y → P y) → (p : Property A) (q : Property B) → try_map f p ≡ Some q → AreAll P (named_tasks q)
try_map_all = grind arith
