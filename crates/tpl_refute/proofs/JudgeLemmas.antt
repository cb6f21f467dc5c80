-- From the verdict on events to what refutes a claim.
use Rattle.std.proofs.Common.{◌≡◌, ℕ, zero, suc, ◌<◌, ◌≤◌, Bool, Option, Some, List, [], ◌∷◌, length, take, drop, reverse, sym, ap, ◌∙◌, subst, arith}
use Rattle.std.specs.Prelude.{slice_get}
use Rattle.std.specs.List.{All}
use Rattle.std.proofs.lemmas.List.{take-append-drop, take-append-le}
use Rattle.std.proofs.lemmas.List.Elements.{All-head}
use Rattle.tpl_audit.proofs.FailLemmas.{front_run}
use Rattle.tpl_model.specs.declared.finals.Final.{Final}
use Rattle.tpl_model.specs.declared.ids.TaskId.{TaskId}
use Rattle.tpl_model.specs.Graph.{TaskGraph}
use Rattle.tpl_model.specs.declared.event.Event.{Event}
use Rattle.tpl_model.specs.Claims.{Claim, Holds}
use Rattle.tpl_model.specs.Journal.{IsSeat}
use Rattle.tpl_laws.specs.Runs.{PrefixIsRun}
use Rattle.tpl_audit.specs.declared.verdict.Failure.{Failure}
use Rattle.tpl_audit.specs.declared.verdict.OtherEnd.{OtherEnd}
use Rattle.tpl_audit.specs.declared.verdict.Verdict.{Verdict}
use Rattle.tpl_audit.specs.declared.verdict.Verdict.TheVariants.{Run as Ran}
use Rattle.tpl_audit.specs.Audit.{first_events, IsVerdict}
use Rattle.tpl_refute.specs.Refuting.{Refutes}

-- the only claim of a list
alone : (claim found : Claim) (i : ℕ) → slice_get (claim ∷ []) i ≡ Some found → found ≡ claim
alone claim found zero e = cc
alone claim found (suc i) e = absurd (cc)

within : (n : ℕ) (events : List Event) → length (take n events) ≤ n
within zero [] = omega arith
within zero (e ∷ events) = omega arith
within (suc n) [] = omega arith
within (suc n) (e ∷ events) = let rest = within n events in omega arith

-- the beginning of a beginning
first_of_first : (events : List Event) (n place : ℕ) → place < length (take n events) → first_events events place ≡ first_events (take n events) place
first_of_first events n place lt =
    ap reverse (sym (ap (take place) (take-append-drop n events)) ∙ take-append-le place (take n events) (drop n events) (omega arith))

pub refutes : (g : TaskGraph) (claim : Claim) (v : List Bool) (events front : List Event) (ended : List (TaskId × Final)) (complete : Bool) (failure : Failure) (other_end : Option OtherEnd)
    → PrefixIsRun → IsVerdict g v events (claim ∷ []) ended (Ran complete (Some failure) other_end) → front ≡ take failure.place events → length v ≡ g.inputs → All (λ e. IsSeat e.actor) front → Refutes g claim v front
refutes g claim v events front ended complete failure other_end prefix is e count seats = subst (Refutes g claim v) (sym e) (record {
  inputs = count;
  run = front_run g v events failure.place prefix is.run;
  fails = λ holds. is.failure.fails (subst (λ (c : Claim). Holds g c v (first_events events failure.place)) (sym same) holds);
  earlier = λ place lt.
      subst (Holds g claim v) (first_of_first events failure.place place lt)
      (All-head (λ c. Holds g c v (first_events events place)) claim [] (is.failure.earlier place (let few = within failure.place events in omega arith)));
  seats = subst (All (λ e. IsSeat e.actor)) e seats;
})
  where
    same : is.failure.claim ≡ claim
    same = alone claim is.failure.claim is.failure.before is.failure.there

-- the same of the verdict that the audit gave on copies of these values

pub judged : (g : TaskGraph) (claim : Claim) (v w : List Bool) (events told front : List Event) (claims : List Claim) (ended : List (TaskId × Final)) (verdict : Verdict) (complete : Bool) (failure : Failure) (other_end : Option OtherEnd)
    → PrefixIsRun → w ≡ v → told ≡ events → claims ≡ claim ∷ [] → verdict ≡ Ran complete (Some failure) other_end → IsVerdict g w told claims ended verdict
    → front ≡ take failure.place events → length v ≡ g.inputs → All (λ e. IsSeat e.actor) front → Refutes g claim v front
judged g claim v w events told front claims ended verdict complete failure other_end prefix e1 e2 e3 e4 is =
    let is1 = subst (λ (z : List Bool). IsVerdict g z told claims ended verdict) e1 is in
    let is2 = subst (λ (z : List Event). IsVerdict g v z claims ended verdict) e2 is1 in
    let is3 = subst (λ (z : List Claim). IsVerdict g v events z ended verdict) e3 is2 in
    refutes g claim v events front ended complete failure other_end prefix (subst (IsVerdict g v events (claim ∷ []) ended) e4 is3)
