-- What a worker has after one more section, and the item that it takes.
use Rattle.std.proofs.Common.{◌≡◌, ◌∙◌, ℕ, zero, suc, ◌+◌, ◌<◌, Bool, true, false, cond, List, [], ◌∷◌, ◌++◌, length, map, arith, ap, refl, sym, subst}
use Rattle.std.specs.Prelude.{Some, nat_eq, slice_get}
use Rattle.std.proofs.lemmas.Bool.{eq-eqb}
use Rattle.std.proofs.lemmas.List.Sums.{sum_by-cons}
use Rattle.tpl_items.specs.Items.{count_of}
use Rattle.tpl_model.specs.declared.event.Act.{Act}
use Rattle.tpl_machine.specs.Journal.{Journal, after, named}
use Rattle.tpl_hall.specs.declared.sight.Ended.{Ended}
use Rattle.tpl_hall.specs.declared.stint.Stint.{Stint}
use Rattle.tpl_hall.specs.Growth.{Sweeps}
use Rattle.tpl_hall.specs.Lists.{by}
use Rattle.tpl_hall.specs.Stays.{GoesOn, Leaves, Stays}
use Rattle.tpl_hall.specs.Views.{SeatView}
use Rattle.tpl_hall.proofs.MoveLemmas.{moves_none, moves_one, moves_sweep, moves_trans}
use Rattle.tpl_hall.proofs.StayLemmas.{goes_on_moved}
use Rattle.tpl_runtime.specs.Views.{SessionView}
use Rattle.tpl_runtime.specs.declared.kit.Kit.{Kit}
use Rattle.tpl_runtime.specs.declared.shared.Turn.{Turn}
use Rattle.tpl_runtime.specs.declared.shared.Turn.TheVariants.{Go, Call, Wait, Over}
use Rattle.tpl_runtime.specs.Turns.{session_of, Keeps, OnOver, Proceeds}

-- a section in which nothing was done
pub still : {W : Type 0} (kit kit' : Kit W) (j j' : Journal) → session_of kit' ≡ session_of kit → kit'.stint ≡ kit.stint → j' ≡ j → kit'.seat ≡ kit.seat → Proceeds kit kit' j j'
still kit kit' j j' session stint same seat =
    record { session = session; stint = stint; moves = moves_none kit.seat kit'.seat j j' same seat; last = ap (λ (s : SeatView). s.last) seat }

-- a section in which what was due was done
pub swept : {W : Type 0} (kit kit' : Kit W) (j j' : Journal) → session_of kit' ≡ session_of kit → kit'.stint ≡ kit.stint → (named j' ≡ named j) × (j'.inputs ≡ j.inputs)
    → (kit'.seat.actor ≡ kit.seat.actor) × (kit'.seat.last ≡ kit.seat.last) × (kit'.seat.room ≡ kit.seat.room) → Sweeps j.graph j.inputs kit.seat.actor j.events kit.seat.mine j'.events kit'.seat.mine
    → Proceeds kit kit' j j'
swept kit kit' j j' session stint graph seat grown =
    record { session = session; stint = stint; moves = moves_sweep kit.seat kit'.seat j j' graph.0 graph.1 seat.0 seat.2 grown; last = seat.1 }

-- a section in which an act was done, which left this seat and this run, and then what ends a section
pub acted : {W : Type 0} (kit done kit' : Kit W) (j i j' : Journal) (act : Act) (place : ℕ) → session_of done ≡ session_of kit → done.stint ≡ kit.stint → i ≡ after j (by kit.seat.actor act)
    → place ≡ length i.events → done.seat ≡ record kit.seat { mine = kit.seat.mine ++ (place, by kit.seat.actor act) ∷ [] } → Proceeds done kit' i j' → Proceeds kit kit' j j'
acted kit done kit' j i j' act place session stint run at seat p =
    record {
      session = p.session ∙ session;
      stint = p.stint ∙ stint;
      moves = moves_trans kit.seat done.seat kit'.seat j i j' (moves_one kit.seat done.seat j i act place run at seat) p.moves;
      last = p.last ∙ ap (λ (s : SeatView). s.last) seat;
    }

-- a worker that goes on after one more section
pub stays_on : {W : Type 0} (kit kit' : Kit W) (n : ℕ) (first : SeatView) (j j' : Journal) → Stays kit.stint first kit.seat → GoesOn (length j.events) first kit.seat → Proceeds kit kit' j j'
    → n ≡ length j'.events → Stays (record kit'.stint { seen = Some n }) first kit'.seat
stays_on kit kit' n first j j' s g p at =
    record {
      came = s.came ∙ sym (ap (λ (t : Stint). t.came) p.stint);
      on = subst (λ k. GoesOn k first kit'.seat) (sym at) (goes_on_moved first kit.seat kit'.seat j j' g p.moves p.last);
    }

-- a turn that doesn't end the worker's work
pub on_over : {W : Type 0} (turn : Turn W) (over : Ended → Type 0) (on : Type 0) → ((ended : Ended) → turn ≡ Over ended → ⊥) → on → OnOver turn over on
on_over (Over ended) over on not p = absurd (not ended refl)
on_over (Go held) over on not p = p
on_over (Call task item) over on not p = p
on_over Wait over on not p = p

-- sections keep what they have to after one more, where the worker's work goes on
pub keeps_on : {W : Type 0} (turn : Turn W) (kit kit' : Kit W) (n : ℕ) (j j' : Journal) → ((ended : Ended) → turn ≡ Over ended → ⊥)
    → ((first : SeatView) → Stays kit.stint first kit.seat → GoesOn (length j.events) first kit.seat) → Proceeds kit kit' j j' → n ≡ length j'.events
    → Keeps turn kit (record kit' { stint = record kit'.stint { seen = Some n } })
keeps_on turn kit kit' n j j' not goes p at =
    record {
      session = p.session;
      actor = p.moves.actor;
      stays = λ first stays.
          on_over turn (λ ended. Leaves ended kit.graph.now.graph kit.inputs.now first kit'.seat) (Stays (record kit'.stint { seen = Some n }) first kit'.seat) not
          (stays_on kit kit' n first j j' stays (goes first stays) p at);
    }

-- a worker that works in this session, and came with this seat
pub record WorksIn {W : Type 0} (worked : SessionView) (first : SeatView) (kit : Kit W) : Type 0 where
  pub session : session_of kit ≡ worked
  pub actor : kit.seat.actor ≡ first.actor
  pub stays : Stays kit.stint first kit.seat

pub works_on : {W : Type 0} (kit kit' : Kit W) (session : SessionView) (first : SeatView) → session_of kit' ≡ session_of kit → kit'.seat.actor ≡ kit.seat.actor
    → (Stays kit.stint first kit.seat → Stays kit'.stint first kit'.seat) → WorksIn session first kit → WorksIn session first kit'
works_on kit kit' session first same actor stays w = record { session = same ∙ w.session; actor = actor ∙ w.actor; stays = stays w.stays }

one_more : (b : Bool) (n : ℕ) → b ≡ true → 0 < cond b 1 0 + n
one_more true n e = omega arith
one_more false n e = absurd cc

-- an item that stands in the list counts among those of its site
counted : {W : Type 0} (f : W → ℕ) (items : List W) (place : ℕ) (x : W) (s : ℕ) → slice_get items place ≡ Some x → f x ≡ s → 0 < count_of (map f items) s
counted f [] place x s at is = absurd cc
counted f (y ∷ ys) zero x s at is =
    let same : s ≡ f y = cc in
    subst (λ (n : ℕ). 0 < n) (sym (sum_by-cons (λ z. cond (nat_eq s z) 1 0) (f y) (map f ys))) (one_more (nat_eq s (f y)) (count_of (map f ys) s) (eq-eqb s (f y) same))
counted f (y ∷ ys) (suc place) x s at is = omega (arith, sum_by-cons (λ z. cond (nat_eq s z) 1 0) (f y) (map f ys), counted f ys place x s at is)

pub has_item : {W : Type 0} (f : W → ℕ) (items : List W) (place : ℕ) (x : W) (s : ℕ) → slice_get items place ≡ Some x → f x ≡ s → count_of (map f items) s ≡ 0 → ⊥
has_item f items place x s at is none = omega (arith, counted f items place x s at is, none)
