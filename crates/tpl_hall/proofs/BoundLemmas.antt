-- Who did the event that ended a task.
use Rattle.std.proofs.Common.{◌≡◌, inl, inr, ℕ, zero, suc, ◌≤◌, List, [], ◌∷◌, ◌++◌, length, Bool, true, refl, sym, ap, ◌∙◌, arith}
use Rattle.std.specs.Prelude.{reverse, Option, Some, None, ◌&&◌, not, if◌then◌else◌}
use Rattle.std.specs.Option.{option_map}
use Rattle.std.proofs.lemmas.List.{length-reverse, reverse-reverse}
use Rattle.tpl_model.specs.Options.{execute_synchronously, run_continuations_asynchronously}
use Rattle.tpl_model.specs.declared.status.Actor.{Actor}
use Rattle.tpl_model.specs.declared.event.Act.{Act}
use Rattle.tpl_model.specs.declared.event.Act.TheVariants.{Request, Release, Begin, Step, Worked, Leave, Close, Drop, Settle}
use Rattle.tpl_model.specs.declared.event.Event.{Event}
use Rattle.tpl_model.specs.Facts.{Ending, Rest, place_in, ended_at_once, settled_as, ending_by, rest, started, ending}
use Rattle.tpl_model.specs.Graph.{TaskGraph, TaskKind, Root, Child, Continues, WhenAll, WhenAny, kind, options}
use Rattle.tpl_model.specs.Rules.{worker_of, actor_in, bound_worker}
use Rattle.tpl_draft.specs.Named.{antecedent_of}
use Rattle.tpl_machine.specs.Reading.{place_of, ended}
use Rattle.tpl_laws.proofs.Basics.{if_true}
use Rattle.tpl_laws.proofs.Kept.{ending_new}
use Rattle.tpl_laws.proofs.SettledBefore.{ended_within}
use Rattle.tpl_hall.specs.Bound.{actor_at}
use Rattle.tpl_hall.proofs.MoveLemmas.{reverse-cons, get_last, get_before}

-- where a task ended, and by whom
record IsBy (r : Ending) (n : ℕ) (actor : Option Actor) : Type 0 where
  pub place : r.place ≡ n
  pub by : r.actor ≡ actor

at_once_by : (k : TaskKind) (r : Ending) → ended_at_once k ≡ Some r → IsBy r 0 None
at_once_by Root r e = cc
at_once_by Child r e = cc
at_once_by (Continues a) r e = cc
at_once_by (WhenAll []) r e = record { place = ap place_in (sym e); by = ap actor_in (sym e) }
at_once_by (WhenAll (x ∷ xs)) r e = cc
at_once_by (WhenAny args) r e = cc

settled_by : (k : TaskKind) (place : ℕ) (a : Actor) (en : ℕ → Option Ending) (r : Ending) → settled_as k place (Some a) en ≡ Some r → IsBy r place (Some a)
settled_by Root place a en r e = cc
settled_by Child place a en r e = cc
settled_by (Continues c) place a en r e = cc
settled_by (WhenAll args) place a en r e = record { place = ap place_in (sym e); by = ap actor_in (sym e) }
settled_by (WhenAny args) place a en r e = record { place = ap place_in (sym e); by = ap actor_in (sym e) }

act_by : (g : TaskGraph) (t place : ℕ) (a : Actor) (x : Act) (re : ℕ → Rest) (st : ℕ → Bool) (en : ℕ → Option Ending) (r : Ending) → ending_by g t place a x re st en ≡ Some r → IsBy r place (Some a)
act_by g t place a (Settle s) re st en r e = settled_by (kind g t) place a en r e
act_by g t place a (Drop s) re st en r e = record { place = ap place_in (sym e); by = ap actor_in (sym e) }
act_by g t place a (Request s) re st en r e = record { place = ap place_in (sym e); by = ap actor_in (sym e) }
act_by g t place a (Release s) re st en r e = record { place = ap place_in (sym e); by = ap actor_in (sym e) }
act_by g t place a (Begin s) re st en r e = record { place = ap place_in (sym e); by = ap actor_in (sym e) }
act_by g t place a (Step s) re st en r e = record { place = ap place_in (sym e); by = ap actor_in (sym e) }
act_by g t place a (Worked s w) re st en r e = record { place = ap place_in (sym e); by = ap actor_in (sym e) }
act_by g t place a (Leave s) re st en r e = record { place = ap place_in (sym e); by = ap actor_in (sym e) }
act_by g t place a (Close s) re st en r e = record { place = ap place_in (sym e); by = ap actor_in (sym e) }

-- an event more changes nothing at the places before it
at_before : (journal : List Event) (e : Event) (place : ℕ) → place ≤ length journal → actor_at (journal ++ e ∷ []) place ≡ actor_at journal place
at_before journal e zero le = refl
at_before journal e (suc n) le = ap (option_map (λ (x : Event). x.actor)) (get_before journal (e ∷ []) n (omega (arith, le)))

-- and it stands at the next one
at_last : (journal : List Event) (e : Event) (place : ℕ) → place ≡ suc (length journal) → actor_at (journal ++ e ∷ []) place ≡ Some e.actor
at_last journal e zero is = cc
at_last journal e (suc n) is = ap (option_map (λ (x : Event). x.actor)) (get_last journal e n (omega (arith, is)))

-- who ended a task is who did the event at its place
ended_by_at : (g : TaskGraph) (v : List Bool) (h : List Event) (t : ℕ) (r : Ending) → ending g v h t ≡ Some r → r.actor ≡ actor_at (reverse h) r.place
ended_by_at g v [] t r e =
    let at = at_once_by (kind g t) r e in
    at.by ∙ ap (actor_at []) (sym at.place)
ended_by_at g v (x ∷ h) t r e =
    elim (ending_new g v h x.actor x.act t r e) [
      | inl old ↦
          let within = ended_within g v h t r old in
          ended_by_at g v h t r old
          ∙ sym (at_before (reverse h) x r.place (omega (arith, within, length-reverse h)))
          ∙ ap (λ l. actor_at l r.place) (sym (reverse-cons x h))
      | inr new ↦
          let at = act_by g t (suc (length h)) x.actor x.act (rest g v h) (started g v h) (ending g v h) r new.1 in
          at.by
          ∙ sym (at_last (reverse h) x r.place (omega (arith, at.place, length-reverse h)))
          ∙ ap (λ l. actor_at l r.place) (sym (reverse-cons x h))
    ]

-- who did the event that ended a task, if it has ended
who_ended : (journal : List Event) (o : Option Ending) (place : ℕ) → ((r : Ending) → o ≡ Some r → r.actor ≡ actor_at journal r.place) → place_of o ≡ Some place → actor_in o ≡ actor_at journal place
who_ended journal None place each e = cc
who_ended journal (Some r) place each e = let same : r.place ≡ place = cc in each r refl ∙ ap (actor_at journal) same

who_did : (g : TaskGraph) (v : List Bool) (h journal : List Event) (a place : ℕ) → reverse journal ≡ h → ended g v h a ≡ Some place → actor_in (ending g v h a) ≡ actor_at journal place
who_did g v h journal a place same there =
    let back : reverse h ≡ journal = ap reverse (sym same) ∙ reverse-reverse journal in
    who_ended journal (ending g v h a) place (λ r e. ended_by_at g v h a r e ∙ ap (λ l. actor_at l r.place) back) there

-- a continuation of a is to run on the worker that ends a
abbrev pub is_bound : TaskGraph → ℕ → ℕ → Bool
is_bound g t a = execute_synchronously (options g t) && not (run_continuations_asynchronously (options g t)) && not (run_continuations_asynchronously (options g a))

bound_if : (g : TaskGraph) (v : List Bool) (h : List Event) (t : ℕ) (k : TaskKind) (a : ℕ) → Some a ≡ antecedent_of k
    → bound_worker g v h t k ≡ (if is_bound g t a then worker_of (actor_in (ending g v h a)) else None)
bound_if g v h t (Continues c) a is = let same : c ≡ a = cc in ap (λ x. if is_bound g t x then worker_of (actor_in (ending g v h x)) else None) same
bound_if g v h t Root a is = cc
bound_if g v h t Child a is = cc
bound_if g v h t (WhenAll args) a is = cc
bound_if g v h t (WhenAny args) a is = cc

-- a continuation that is to run synchronously is bound to who did the event that ended its antecedent
pub bound_at : (g : TaskGraph) (v : List Bool) (h journal : List Event) (t : ℕ) (k : TaskKind) (a place : ℕ) → Some a ≡ antecedent_of k → is_bound g t a ≡ true
    → reverse journal ≡ h → Some place ≡ ended g v h a → worker_of (actor_at journal place) ≡ bound_worker g v h t k
bound_at g v h journal t k a place is bound same there =
    sym (bound_if g v h t k a is ∙ if_true (is_bound g t a) (worker_of (actor_in (ending g v h a))) None bound ∙ ap worker_of (who_did g v h journal a place same (sym there)))
