-- What the answers of a queue say of one moment.
use Rattle.std.proofs.Common.{◌≡◌, ℕ, ◌+◌, ◌<◌, List, [], ◌∷◌, map, length, ap, sym, arith, ◌∙◌}
use Rattle.std.proofs.lemmas.List.{length-map}
use Rattle.tpl_items.specs.declared.rule.Tally.{Tally}
use Rattle.tpl_items.specs.Tally.{weigh, Accounts, HadRoom}

-- a job that was put, where a witness says that the capacity is n
pub fewer_at_put : {J : Type 0} (task : J → ℕ) (n : ℕ) (v : Tally) (jobs : List J) (told : List ℕ) → told ≡ n ∷ [] → length jobs < n → Accounts v (map task jobs) → HadRoom told v
fewer_at_put task n v jobs told tells fewer knows m says =
    let same : m + 0 ≡ n + 0 = ap (weigh (λ k. k)) (sym says ∙ tells) in
    let long : length (map task jobs) ≡ length jobs = length-map jobs task in
    (map task jobs, omega arith, knows)
