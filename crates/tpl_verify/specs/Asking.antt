-- Which claims are searched.
use Rattle.std.specs.Prelude.{◌≡◌, ℕ, suc, ◌<◌, ◌≤◌, Option, Some, None, List, slice_get}
use Rattle.tpl_model.specs.Claims.{Claim}

-- the claim of this number is searched: it is the one that is asked for, or none is named and each is searched
abbrev pub IsAsked : Option ℕ → ℕ → Type 0
IsAsked None number = Unit {0}
IsAsked (Some asked) number = asked ≡ number

-- there is a claim of this number; the first has 1
abbrev pub IsThere : ℕ → ℕ → Type 0
IsThere count number = (0 < number) × (number ≤ count)

-- there is a claim of the number that is asked for, if one is
abbrev pub IsKnown : ℕ → Option ℕ → Type 0
IsKnown count None = Unit {0}
IsKnown count (Some asked) = IsThere count asked

-- the claim of this number
abbrev pub IsNumbered : List Claim → ℕ → Claim → Type 0
IsNumbered claims number claim = (before : ℕ) × (number ≡ suc before) × (slice_get claims before ≡ Some claim)
