-- The input that a reader had, also where nothing is known of it.
use Rattle.std.proofs.Common.{◌≡◌, ℕ, ◌+◌, ◌<◌, List, [], length, Option, Some, None, refl, arith}
use Rattle.std.specs.Prelude.{IfSome, replicate}
use Rattle.std.proofs.lemmas.List.{length-replicate}

pub any_input : (known : Option (List ℕ)) → (input : List ℕ) × IfSome known (λ bytes. input ≡ bytes)
any_input None = ([], tt)
any_input (Some bytes) = (bytes, refl)

pub long_input : (n : ℕ) (known : Option (List ℕ)) → IfSome known (λ bytes. n < length bytes) → (input : List ℕ) × IfSome known (λ bytes. input ≡ bytes) × (n < length input)
long_input n None long = (replicate (n + 1) 0, tt, omega (arith, length-replicate {A = ℕ} (n + 1) 0))
long_input n (Some bytes) long = (bytes, refl, long)
