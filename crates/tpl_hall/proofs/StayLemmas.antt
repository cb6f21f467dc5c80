-- A worker's seat from one section to the next.
use Rattle.std.proofs.Common.{◌≡◌, ℕ, zero, suc, ◌∷◌, ◌+◌, ◌≤◌, List, [], ◌++◌, length, Bool, refl, sym, ap, subst, ◌∙◌, arith, inl, inr}
use Rattle.std.specs.Prelude.{reverse, take, Option, Some, None}
use Rattle.std.proofs.lemmas.List.{append-nil, length-reverse}
use Rattle.tpl_model.specs.Graph.{TaskGraph}
use Rattle.tpl_model.specs.Rules.{Run, Complete as IsComplete}
use Rattle.tpl_draft.specs.Named.{Named}
use Rattle.tpl_machine.specs.Journal.{Journal}
use Rattle.tpl_hall.specs.declared.sight.Ended.TheVariants.{Complete, Halted, Stray}
use Rattle.tpl_hall.specs.declared.sight.Sight.TheVariants.{Complete as AllDone}
use Rattle.tpl_hall.specs.declared.stint.Stint.{Stint}
use Rattle.tpl_hall.specs.Views.{SeatView}
use Rattle.tpl_hall.specs.Lists.{AllUpTo}
use Rattle.tpl_hall.specs.Sights.{IsWithin}
use Rattle.tpl_hall.specs.Growth.{entries, WorksOn}
use Rattle.tpl_hall.specs.Moves.{Fits, Moves}
use Rattle.tpl_hall.specs.Stays.{GoesOn, IsOn, Stays, Leaves}
use Rattle.tpl_hall.proofs.GrowthLemmas.{length-with_acts}
use Rattle.tpl_hall.proofs.MoveLemmas.{up_to, up_to_more, up_to-append, up_to_entries, entries_rise, extends_join, within_more}

-- a seat of this run goes on from itself
pub goes_on_first : (graph : Named) (v : List Bool) (seat : SeatView) (j : Journal) → Fits j graph v seat → GoesOn (length j.events) seat seat
goes_on_first graph v seat j f =
    let below : AllUpTo (length j.events) seat.mine = up_to (reverse j.events) seat.mine (length j.events) (omega (arith, length-reverse j.events)) f.stands in
    record {
      last = refl;
      room = refl;
      list = record { added = []; list = sym (append-nil seat.mine); top = length j.events; below = below; above = refl };
      below = below;
      within = f.within;
    }

pub goes_on_more : (n m : ℕ) (first seat : SeatView) → n ≤ m → GoesOn n first seat → GoesOn m first seat
goes_on_more n m first seat le g =
    record { last = g.last; room = g.room; list = g.list; below = up_to_more n m seat.mine le g.below; within = within_more n m first.last le g.within }

-- one section more
pub goes_on_moved : (first seat seat' : SeatView) (j j' : Journal) → GoesOn (length j.events) first seat → Moves seat seat' j j' → seat'.last ≡ seat.last
    → GoesOn (length j'.events) first seat'
goes_on_moved first seat seat' j j' g m same =
    let n = length j.events in
    let acts = m.grown.acts in
    let more : n + length acts ≡ length j'.events = sym (ap length m.grown.run ∙ length-with_acts seat.actor acts j.events) in
    let below : AllUpTo (n + length acts) (seat.mine ++ entries n seat.actor acts) =
    up_to-append (n + length acts) seat.mine (entries n seat.actor acts) (up_to_more n (n + length acts) seat.mine (omega arith) g.below) (up_to_entries n seat.actor acts) in
    record {
      last = same ∙ g.last;
      room = m.room ∙ g.room;
      list = extends_join first.mine seat.mine seat'.mine g.list.added (entries n seat.actor acts) g.list.top n g.list.list m.grown.list g.list.below g.list.above g.below (entries_rise n seat.actor acts);
      below = subst (λ l. AllUpTo (length j'.events) l) (sym m.grown.list) (subst (λ k. AllUpTo k (seat.mine ++ entries n seat.actor acts)) more below);
      within = within_more n (length j'.events) first.last (omega (arith, more)) g.within;
    }

-- the run of a seat that fits
run_of : (graph : Named) (v : List Bool) (seat : SeatView) (j : Journal) → Fits j graph v seat → Run j.graph j.inputs j.events → Run graph.graph v j.events
run_of graph v seat j f run = subst (λ (n : Named). Run n.graph v j.events) f.same_graph (subst (λ w. Run j.graph w j.events) f.same_inputs run)

-- the list of a seat that fits when its worker goes
went : (n : ℕ) (graph : Named) (v : List Bool) (first seat : SeatView) (j : Journal) → Fits j graph v seat → Run j.graph j.inputs j.events → GoesOn n first seat
    → WorksOn graph.graph v first.mine seat.mine
went n graph v first seat j f run g = inr (g.list, (j.events, run_of graph v seat j f run, f.stands))

-- a worker goes to which nothing was reported
pub leaves_halted : (n : ℕ) (graph : Named) (v : List Bool) (first seat : SeatView) (j : Journal) → Fits j graph v seat → Run j.graph j.inputs j.events → GoesOn n first seat
    → Leaves Halted graph.graph v first seat
leaves_halted n graph v first seat j f run g = record { list = went n graph v first seat j f run g; last = g.last; room = g.room }

pub leaves_stray : (n : ℕ) (graph : Named) (v : List Bool) (first seat : SeatView) (j : Journal) → Fits j graph v seat → Run j.graph j.inputs j.events → GoesOn n first seat
    → Leaves Stray graph.graph v first seat
leaves_stray n graph v first seat j f run g = record { list = went n graph v first seat j f run g; last = g.last; room = g.room }

-- a worker goes to which it is reported that the run is complete
pub leaves_complete : (graph : Named) (v : List Bool) (first seat seat' : SeatView) (j : Journal) (place : ℕ) → Fits j graph v seat → Run j.graph j.inputs j.events
    → GoesOn (length j.events) first seat → IsComplete j.graph j.inputs j.events → place ≡ length j.events → seat' ≡ record seat { last = Some (place, AllDone) }
    → Leaves Complete graph.graph v first seat'
leaves_complete graph v first seat seat' j place f run g complete at told =
    subst (λ s. Leaves Complete graph.graph v first s) (sym told)
    (record {
      list = went (length j.events) graph v first seat j f run g;
      last = (
        place,
        refl,
        record {
          events = j.events;
          run = run_of graph v seat j f run;
          place = sym at;
          is_true = subst (λ (n : Named). IsComplete n.graph v j.events) f.same_graph (subst (λ w. IsComplete j.graph w j.events) f.same_inputs complete);
          stands = f.stands;
          not_before = subst (λ n. IsWithin n first.last) (sym at) g.within;
        },
      );
      room = g.room;
    })

take_first : {X : Type 0} (xs ys : List X) (n : ℕ) → length xs ≡ n → take n (xs ++ ys) ≡ xs
take_first [] ys zero is = refl
take_first [] ys (suc n) is = cc
take_first (x ∷ xs) ys zero is = cc
take_first (x ∷ xs) ys (suc n) is = ap (λ l. x ∷ l) (take_first xs ys n (omega (arith, is)))

-- a worker goes with the list with which it came
as_it_came : (seen : Option ℕ) (n : ℕ) (first seat seat' : SeatView) → length first.mine ≡ n → IsOn seen first seat → seat' ≡ record seat { mine = take n seat.mine }
    → (seat'.mine ≡ first.mine) × (seat'.last ≡ first.last) × (seat'.room ≡ first.room)
as_it_came None n first seat seat' came on is = (
  ap (λ (s : SeatView). s.mine) is ∙ ap (λ (s : SeatView). take n s.mine) on ∙ ap (take n) (sym (append-nil first.mine)) ∙ take_first first.mine [] n came,
  ap (λ (s : SeatView). s.last) is ∙ ap (λ (s : SeatView). s.last) on,
  ap (λ (s : SeatView). s.room) is ∙ ap (λ (s : SeatView). s.room) on,
)
as_it_came (Some m) n first seat seat' came on is = (
  ap (λ (s : SeatView). s.mine) is ∙ ap (take n) on.list.list ∙ take_first first.mine on.list.added n came,
  ap (λ (s : SeatView). s.last) is ∙ on.last,
  ap (λ (s : SeatView). s.room) is ∙ on.room,
)

pub leaves_as_it_came : (stint : Stint) (g : TaskGraph) (v : List Bool) (first seat seat' : SeatView) → Stays stint first seat
    → seat' ≡ record seat { mine = take stint.came seat.mine } → Leaves Stray g v first seat'
leaves_as_it_came stint g v first seat seat' s is =
    let came = as_it_came stint.seen stint.came first seat seat' s.came s.on is in
    record { list = inl came.0; last = came.1; room = came.2 }

-- the seat of a worker that may go on
pub went_on : (n m : ℕ) (stint : Stint) (first seat : SeatView) → n ≤ m → stint.seen ≡ Some n → Stays stint first seat → GoesOn m first seat
went_on n m stint first seat le seen s = goes_on_more n m first seat le (subst (λ o. IsOn o first seat) seen s.on)

pub went_in : (graph : Named) (v : List Bool) (stint : Stint) (first seat : SeatView) (j : Journal) → Fits j graph v seat → stint.seen ≡ None → Stays stint first seat
    → GoesOn (length j.events) first seat
went_in graph v stint first seat j f seen s =
    let same : seat ≡ first = subst (λ o. IsOn o first seat) seen s.on in
    subst (λ x. GoesOn (length j.events) x seat) same (goes_on_first graph v seat j f)
