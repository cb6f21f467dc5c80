-- What follows for what was written.
use Rattle.std.proofs.Common.{◌≡◌, Result, Ok, Err, IfOk, subst}

-- what follows for what was written follows for what is left of it
pub still : {X E F : Type 0} (P Q : X → Type 0) (a : Result X E) (r : Result X F) → ((x : X) → P x → Q x) → IfOk a P → IfOk r (λ x. a ≡ Ok x) → IfOk r Q
still {X} {E} P Q a (Ok x) follows is same = follows x (subst (λ (o : Result X E). IfOk o P) same is)
still P Q a (Err e) follows is same = tt
