-- Tokens that an actor's events request, and the run in which these events stand.
use Rattle.std.proofs.Common.{◌≡◌, ◌∙◌, ◌⊎◌, inl, inr, ℕ, suc, ◌<◌, ◌≤◌, ◌||◌, Bool, true, false, List, [], ◌∷◌, ◌++◌, refl, sym, ap, subst, length, append_assoc, arith}
use Rattle.std.specs.Prelude.{if◌then◌else◌, reverse, nat_eq, slice_index_or}
use Rattle.std.proofs.lemmas.Bool.{or_cases, or_left, or_right}
use Rattle.std.proofs.lemmas.List.{append-nil}
use Rattle.tpl_model.proofs.MemberLemmas.{same_self}
use Rattle.tpl_model.proofs.Truths.{true_false}
use Rattle.tpl_model.specs.declared.status.Actor.{Actor}
use Rattle.tpl_model.specs.declared.ids.TokenId.{TokenId}
use Rattle.tpl_model.specs.declared.event.Act.{Act}
use Rattle.tpl_model.specs.declared.event.Act.TheVariants.{Request, Release, Begin, Step, Worked, Leave, Close, Drop, Settle}
use Rattle.tpl_model.specs.declared.event.Event.{Event}
use Rattle.tpl_model.specs.Facts.{Rest, rest, requests, requested, requested_itself}
use Rattle.tpl_model.specs.Graph.{TaskGraph, is_token}
use Rattle.tpl_model.specs.Journal.{own, own_from, same_actor}
use Rattle.tpl_laws.proofs.Sources.{through_here, through_more}
use Rattle.tpl_hall.specs.Growth.{Requests, entries}
use Rattle.tpl_hall.specs.Lists.{by}
use Rattle.tpl_hall.specs.Views.{SeatView}
use Rattle.tpl_hall.proofs.MoveLemmas.{reverse-cons}
use Rattle.tpl_run.specs.Tokens.{IsTable}
use Rattle.tpl_report.specs.Made.{is_request, asks, HasAsked, GoesOn}

asks_left : (xs ys : List (ℕ × Event)) (k : ℕ) → asks xs k ≡ true → asks (xs ++ ys) k ≡ true
asks_left [] ys k e = true_false (sym e)
asks_left (x ∷ xs) ys k e =
    elim (or_cases (is_request k x.1.act) (asks xs k) e) [
      | inl a ↦ or_left (is_request k x.1.act) (asks (xs ++ ys) k) a
      | inr b ↦ or_right (is_request k x.1.act) (asks (xs ++ ys) k) (asks_left xs ys k b)
    ]

asks_right : (xs ys : List (ℕ × Event)) (k : ℕ) → asks ys k ≡ true → asks (xs ++ ys) k ≡ true
asks_right [] ys k e = e
asks_right (x ∷ xs) ys k e = or_right (is_request k x.1.act) (asks (xs ++ ys) k) (asks_right xs ys k e)

-- what a list has asked for, a longer one has asked for too
pub asked_on : (g : TaskGraph) (old new : List (ℕ × Event)) (k : ℕ) → GoesOn old new → HasAsked g old k → HasAsked g new k
asked_on g old new k on e =
    through_more g (asks old) (asks new) (λ j a. subst (λ l. asks l j ≡ true) (sym on.1) (asks_left old on.0 j a)) k e

-- a list that stayed
pub goes_on_same : (old new : List (ℕ × Event)) → new ≡ old → GoesOn old new
goes_on_same old new same = ([], same ∙ sym (append-nil old))

-- a request that has a place
pub goes_on_placed : (g : TaskGraph) (v : List Bool) (seat seat' : SeatView) (k : TokenId) (n : ℕ) → Requests g v seat seat' k n → GoesOn seat.mine seat'.mine
goes_on_placed g v seat seat' k n r =
    let one = (n, by seat.actor (Request k)) ∷ [] in
    (one ++ entries n seat.actor r.acts, r.list ∙ append_assoc seat.mine one (entries n seat.actor r.acts))

pub asked_placed : (g : TaskGraph) (v : List Bool) (seat seat' : SeatView) (k : TokenId) (n : ℕ) → Requests g v seat seat' k n → HasAsked g seat'.mine k.0
asked_placed g v seat seat' k n r =
    let one = (n, by seat.actor (Request k)) ∷ [] in
    through_here g (asks seat'.mine) k.0 (subst (λ l. asks l k.0 ≡ true) (sym r.list)
    (asks_left (seat.mine ++ one) (entries n seat.actor r.acts) k.0 (asks_right seat.mine one k.0 (or_left (nat_eq k.0 k.0) false (same_self k.0)))))

request_requests : (k : ℕ) (act : Act) (left : ℕ → Rest) → is_request k act ≡ true → requests k act left ≡ true
request_requests k (Request j) left e = e
request_requests k (Release t) left e = true_false (sym e)
request_requests k (Begin t) left e = true_false (sym e)
request_requests k (Step t) left e = true_false (sym e)
request_requests k (Worked t answer) left e = true_false (sym e)
request_requests k (Leave t) left e = true_false (sym e)
request_requests k (Close t) left e = true_false (sym e)
request_requests k (Drop t) left e = true_false (sym e)
request_requests k (Settle t) left e = true_false (sym e)

-- what was requested stays so, whatever comes later
stays_requested : (g : TaskGraph) (v : List Bool) (later h : List Event) (k : ℕ) → requested_itself g v h k ≡ true → requested_itself g v (later ++ h) k ≡ true
stays_requested g v [] h k e = e
stays_requested g v (x ∷ later) h k e =
    or_right (requests k x.act (rest g v (later ++ h))) (requested_itself g v (later ++ h) k) (stays_requested g v later h k e)

one_asks : (mine : Bool) (place : ℕ) (e : Event) (rest : List (ℕ × Event)) (k : ℕ) → asks (if mine then (place, e) ∷ rest else rest) k ≡ true
    → (is_request k e.act ≡ true) ⊎ (asks rest k ≡ true)
one_asks true place e rest k is = or_cases (is_request k e.act) (asks rest k) is
one_asks false place e rest k is = inr is

own_requested : (g : TaskGraph) (v : List Bool) (actor : Actor) (place : ℕ) (journal h : List Event) (k : ℕ) → asks (own_from place actor journal) k ≡ true
    → requested_itself g v (reverse journal ++ h) k ≡ true
own_requested g v actor place [] h k is = true_false (sym is)
own_requested g v actor place (e ∷ journal) h k is =
    let onto : reverse (e ∷ journal) ++ h ≡ reverse journal ++ (e ∷ h) = ap (λ l. l ++ h) (reverse-cons e journal) ∙ append_assoc (reverse journal) (e ∷ []) h in
    subst (λ l. requested_itself g v l k ≡ true) (sym onto) (
    elim (one_asks (same_actor actor e.actor) place e (own_from (suc place) actor journal) k is) [
      | inl a ↦ stays_requested g v (reverse journal) (e ∷ h) k (or_left (requests k e.act (rest g v h)) (requested_itself g v h k) (request_requests k e.act (rest g v h) a))
      | inr b ↦ own_requested g v actor (suc place) journal (e ∷ h) k b
    ]
    )

-- what an actor has asked for is requested in the run in which its events stand
pub asked_in_run : (g : TaskGraph) (v : List Bool) (actor : Actor) (mine : List (ℕ × Event)) (journal : List Event) (k : ℕ) → mine ≡ own actor journal → HasAsked g mine k
    → requested g v (reverse journal) k ≡ true
asked_in_run g v actor mine journal k all e =
    through_more g (asks mine) (requested_itself g v (reverse journal))
    (λ j a. subst (λ l. requested_itself g v l j ≡ true) (append-nil (reverse journal)) (own_requested g v actor 1 journal [] j (subst (λ l. asks l j ≡ true) all a))) k e

-- the requests among the events of an actor

abbrev request_first : Act → Actor → List Event → List Event
request_first (Request j) actor later = by actor (Request j) ∷ later
request_first act actor later = later

abbrev requests_among : List (ℕ × Event) → List Event
requests_among [] = []
requests_among (x ∷ xs) = request_first x.1.act x.1.actor (requests_among xs)

one_among : (g : TaskGraph) (v : List Bool) (act : Act) (actor : Actor) (later : List Event) (k : ℕ)
    → requested_itself g v (request_first act actor later) k ≡ is_request k act || requested_itself g v later k
one_among g v (Request j) actor later k = refl
one_among g v (Release t) actor later k = refl
one_among g v (Begin t) actor later k = refl
one_among g v (Step t) actor later k = refl
one_among g v (Worked t answer) actor later k = refl
one_among g v (Leave t) actor later k = refl
one_among g v (Close t) actor later k = refl
one_among g v (Drop t) actor later k = refl
one_among g v (Settle t) actor later k = refl

requested_among : (g : TaskGraph) (v : List Bool) (mine : List (ℕ × Event)) (k : ℕ) → requested_itself g v (requests_among mine) k ≡ asks mine k
requested_among g v [] k = refl
requested_among g v (x ∷ xs) k =
    one_among g v x.1.act x.1.actor (requests_among xs) k ∙ ap (λ b. is_request k x.1.act || b) (requested_among g v xs k)

-- a token that is marked once the table of what the events ask for is closed over the links
pub marked_asked : (g : TaskGraph) (mine : List (ℕ × Event)) (table closed : List Bool) (k : ℕ) → length g.tokens ≤ 32 → is_token g k
    → ((j : ℕ) → j < 32 → slice_index_or table j false ≡ asks mine j) → length table ≡ 32
    → ((v : List Bool) (h : List Event) → IsTable g v h table 0 → IsTable g v h closed (length g.tokens))
    → slice_index_or closed k false ≡ true → HasAsked g mine k
marked_asked g mine table closed k few token exact many closes marked =
    let h = requests_among mine in
    let first : IsTable g [] h table 0 = record {
      below = λ j lt. absurd (omega (arith, lt));
      above = λ j le is. exact j (omega (arith, is, few)) ∙ sym (requested_among g [] mine j);
      count = many;
    } in
    through_more g (requested_itself g [] h) (asks mine) (λ j a. sym (requested_among g [] mine j) ∙ a) k (sym ((closes [] h first).below k token) ∙ marked)
