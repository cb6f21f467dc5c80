-- Each event keeps rows true that are closed by the rules with tokens.
use Rattle.std.proofs.Common.{◌≡◌, ℕ, ◌⊎◌, inl, inr, Bool, true, Option, Some, None, List, [], ◌∷◌, refl, sym, ap, ◌∙◌, subst, is_some}
use Rattle.std.proofs.lemmas.Option.{same_Some}
use Rattle.tpl_model.proofs.Truths.{true_false}
use Rattle.tpl_model.specs.declared.finals.Final.{Final}
use Rattle.tpl_model.specs.declared.finals.Final.TheVariants.{RanToCompletion}
use Rattle.tpl_model.specs.Finals.{has}
use Rattle.tpl_model.specs.Members.{mem}
use Rattle.tpl_model.specs.Knowledge.{Fact, IsSettled, IsRequested}
use Rattle.tpl_model.specs.Graph.{TaskGraph, TaskKind, WhenAll, WhenAny, kind, is_task}
use Rattle.tpl_model.specs.declared.status.Actor.{Actor}
use Rattle.tpl_model.specs.declared.event.Act.{Act}
use Rattle.tpl_model.specs.declared.event.Event.{Event}
use Rattle.tpl_model.specs.Facts.{Ending, final_in, ending, ended_at_once, all_final, first_ended, settled_as, winner_of}
use Rattle.tpl_model.specs.Rules.{final, Allows, Run, can_settle, ended, some_ended}
use Rattle.tpl_model.specs.Valid.{IsGraph}
use Rattle.tpl_model.specs.Certificate.{row, end_left, AllMayEnd, Row, plain}
use Rattle.tpl_model.specs.TokenRules.{ends_with, LeafAssumed, LeafAgrees, with_winners, asked_of, Way, way_final, IsWay, HoldsBy, SettledBelow, TokenEndsRule, EndRule, ClosedWithTokens}
use Rattle.tpl_laws.specs.SoundnessWithTokens.{FactHolds, BeginHolds}
use Rattle.tpl_laws.proofs.Basics.{some_none, the_some, is_some_of}
use Rattle.tpl_laws.proofs.Kept.{after, ending_new, ending_kept, final_of}
use Rattle.tpl_laws.proofs.Ready.{IsBody, begun_body, drop_body, FirstIs, first_is}
use Rattle.tpl_laws.proofs.Follows.{winner_some}
use Rattle.tpl_laws.proofs.Begins.{begun_now, begins}
use Rattle.tpl_laws.proofs.Settling.{below_settled, filter_mem, all_task}
use Rattle.tpl_laws.proofs.Carrying.{Ends, drops, leaves, settled, how_ends}
use Rattle.tpl_laws.proofs.RowsAreTrue.{agrees_before}
use Rattle.tpl_laws.proofs.Arguments.{end_of, all_ended_mem, all_is, all_may, may_end_so}
use Rattle.tpl_laws.proofs.Telling.{told_kept, told_first}
use Rattle.tpl_laws.proofs.TokenRows.{TokenTrue, TokenNow, WayTaken, fact_kept, once_holds, ready_runs, ready_begins, drop_way, body_way}

-- the winner of a WhenAny task that settles is an argument that has ended
any_settled : (args : List ℕ) (en : ℕ → Option Ending) (place : ℕ) (who : Option Actor) (r : Ending) → some_ended args en ≡ true → settled_as (WhenAny args) place who en ≡ Some r → (s : ℕ) × (r.winner ≡ Some s) × (mem s args ≡ true) × (is_some (en s) ≡ true)
any_settled args en place who r c q = by_first (first_ended args en) refl (first_is args en)
  where
    by_first : (o : Option ℕ) → first_ended args en ≡ o → FirstIs args en o → (s : ℕ) × (r.winner ≡ Some s) × (mem s args ≡ true) × (is_some (en s) ≡ true)
    by_first None e f = true_false (sym c ∙ f)
    by_first (Some s) e f = (s, sym (ap winner_of q) ∙ e, f.0, f.1)

-- the rules for a task with a body, by its ways to end
body_ends : (g : TaskGraph) (l : LeafAssumed) (rows : List Row) (t : ℕ) (k : TaskKind) → IsBody k → TokenEndsRule g l rows t (with_winners (l.wins t) k) → (way : Way) → IsWay g l rows t way → has (row (plain rows) t).ends (way_final way) ≡ true
body_ends g l rows t (WhenAll args) b c = absurd b
body_ends g l rows t (WhenAny args) b c = absurd b
body_ends g l rows t k b c = c

body_facts : (g : TaskGraph) (l : LeafAssumed) (rows : List Row) (t : ℕ) (k : TaskKind) (fact : Fact) → IsBody k → EndRule g l rows t (with_winners (l.wins t) k) fact → SettledBelow g t fact ⊎ ((way : Way) → IsWay g l rows t way → HoldsBy g rows t k fact way)
body_facts g l rows t (WhenAll args) fact b c = absurd b
body_facts g l rows t (WhenAny args) fact b c = absurd b
body_facts g l rows t k fact b c = c

module _ (g : TaskGraph) (l : LeafAssumed) (rows : List Row) (v : List Bool) (h : List Event) (now : TokenNow g l rows v h) where
  -- the way that a task with a body takes is one of its ways
  is_way : (t : ℕ) (f : Final) → end_left l.assumed t f ≡ true → (w : WayTaken g l rows v h t (kind g t) f) → IsWay g l rows t w.way
  is_way t f cut w = (subst (λ z. end_left l.assumed t z ≡ true) (sym w.final) cut, w.may)

  way_ends : (t : ℕ) (f : Final) → is_task g t → IsBody (kind g t) → end_left l.assumed t f ≡ true → WayTaken g l rows v h t (kind g t) f → has (row (plain rows) t).ends f ≡ true
  way_ends t f i b cut w =
      subst (λ z. has (row (plain rows) t).ends z ≡ true) w.final (body_ends g l rows t (kind g t) b (now.closed t i).ends w.way (is_way t f cut w))

  -- the task that ends has a body, and a way to end
  way_of : (t : ℕ) (r : Ending) → Ends g v h t r → (is_task g t × IsBody (kind g t) × WayTaken g l rows v h t (kind g t) r.final) ⊎ (is_task g t × (can_settle (kind g t) (ending g v h) ≡ true) × (place : ℕ) × (who : Option Actor) × (settled_as (kind g t) place who (ending g v h) ≡ Some r))
  way_of t r (drops i d f c) = inl (i, drop_body g v h t now.run d, subst (λ z. WayTaken g l rows v h t (kind g t) z) (sym f) (drop_way g l rows v h now t d))
  way_of t r (leaves i b) = inl (i, begun_body g v h t now.run b.begun, body_way g l rows v h now t r b)
  way_of t r (settled i c place who q) = inr (i, c, place, who, q)

  -- however a task ends, by a winner that may win if it is a WhenAny task, its row has that end
  ends_so : (t : ℕ) (r : Ending) → end_left l.assumed t r.final ≡ true → ((s : ℕ) → r.winner ≡ Some s → l.wins t s ≡ true) → Ends g v h t r → has (row (plain rows) t).ends r.final ≡ true
  ends_so t r cut won (drops i d f c) =
      way_ends t r.final i (drop_body g v h t now.run d) cut (subst (λ z. WayTaken g l rows v h t (kind g t) z) (sym f) (drop_way g l rows v h now t d))
  ends_so t r cut won (leaves i b) = way_ends t r.final i (begun_body g v h t now.run b.begun) cut (body_way g l rows v h now t r b)
  ends_so t r cut won (settled i c place who q) = by_kind (kind g t) c q (now.closed t i).ends
    where
      by_kind : (k : TaskKind) → can_settle k (ending g v h) ≡ true → settled_as k place who (ending g v h) ≡ Some r → TokenEndsRule g l rows t (with_winners (l.wins t) k) → has (row (plain rows) t).ends r.final ≡ true
      by_kind (WhenAll args) c q rule =
          rule r.final cut (subst (λ z. AllMayEnd (plain rows) args z) (same_Some (all_final args (ending g v h)) r.final (ap final_in q)) (all_may (plain rows) args (ending g v h) (all_final args (ending g v h)) c now.true_rows.ends (all_is args (ending g v h) c)))
      by_kind (WhenAny args) c q rule =
          let w = any_settled args (ending g v h) place who r c q in
          let e = end_of (ending g v h w.0) w.3 in
          let same = same_Some RanToCompletion r.final (ap final_in q) in
          subst (λ z. has (row (plain rows) t).ends z ≡ true) same
          (rule w.0 (subst (λ z. end_left l.assumed t z ≡ true) (sym same) cut) (filter_mem (l.wins t) w.0 args w.2 (won w.0 w.1)) (may_end_so (plain rows) w.0 e.0 (now.true_rows.ends w.0 e.0 e.1)))
      by_kind k c q rule = true_false (sym c)

  -- what its row says of its end holds, or is settled below it
  facts_so : (t : ℕ) (r : Ending) (fact : Fact) → end_left l.assumed t r.final ≡ true → ((s : ℕ) → r.winner ≡ Some s → l.wins t s ≡ true) → Ends g v h t r → ends_with rows t fact ≡ true → FactHolds g v h fact ⊎ SettledBelow g t fact
  facts_so t r fact cut won e m =
      elim (way_of t r e) [
        | inl w ↦ elim (body_facts g l rows t (kind g t) fact w.1 ((now.closed t w.0).end fact m)) [
          | inl below ↦ inr below
          | inr f ↦ inl (w.2.holds fact (f w.2.way (is_way t r.final cut w.2)))
        ]
        | inr w ↦ inl (by_kind (kind g t) w.2 w.3 w.1 w.4 ((now.closed t w.0).end fact m))
      ]
    where
      by_kind : (k : TaskKind) (place : ℕ) (who : Option Actor) → can_settle k (ending g v h) ≡ true → settled_as k place who (ending g v h) ≡ Some r → EndRule g l rows t (with_winners (l.wins t) k) fact → FactHolds g v h fact
      by_kind (WhenAll args) place who c q rule = once_holds g l rows v h now rule.0 fact (all_ended_mem args (ending g v h) rule.0 c rule.1) rule.2
      by_kind (WhenAny args) place who c q rule =
          let w = any_settled args (ending g v h) place who r c q in
          let f = end_of (ending g v h w.0) w.3 in
          once_holds g l rows v h now w.0 fact w.3 (rule w.0 (filter_mem (l.wins t) w.0 args w.2 (won w.0 w.1)) (may_end_so (plain rows) w.0 f.0 (now.true_rows.ends w.0 f.0 f.1)))
      by_kind k place who c q rule = true_false (sym c)

  module _ (a : Actor) (x : Act) (al : Allows g v h a x) (ag : LeafAgrees g l v (after a x h)) where
    kept : (fact : Fact) → FactHolds g v h fact → FactHolds g v (after a x h) fact
    kept fact e = fact_kept g v h a x fact now.valid now.run al e

    won : (t : ℕ) (r : Ending) → ending g v (after a x h) t ≡ Some r → (s : ℕ) → r.winner ≡ Some s → l.wins t s ≡ true
    won t r e s w = ag.winners t s (ap winner_of e ∙ w)

    ends_after : (t : ℕ) (f : Final) → final g v (after a x h) t ≡ Some f → has (row (plain rows) t).ends f ≡ true
    ends_after t f e =
        let w = final_of (ending g v (after a x h) t) f e in
        elim (ending_new g v h a x t w.0 w.1) [
          | inl o ↦ now.true_rows.ends t f (ap final_in o ∙ ap Some w.2)
          | inr n ↦ subst (λ z. has (row (plain rows) t).ends z ≡ true) w.2 (ends_so t w.0 (subst (λ z. end_left l.assumed t z ≡ true) (sym w.2) (ag.agrees.ends t f e)) (won t w.0 w.1) (how_ends g v h a x t w.0 now.run al n.0 n.1))
        ]

    below_after : (t : ℕ) (fact : Fact) → is_some (ending g v (after a x h) t) ≡ true → SettledBelow g t fact → FactHolds g v (after a x h) fact
    below_after t (IsSettled y) e b = below_settled g v (after a x h) t y now.valid (now.run, al) (ended e) b
    below_after t (IsRequested k) e b = absurd b

    end_after : (t : ℕ) (fact : Fact) → is_some (ending g v (after a x h) t) ≡ true → ends_with rows t fact ≡ true → FactHolds g v (after a x h) fact
    end_after t fact e m =
        let w = the_some (ending g v (after a x h) t) e in
        elim (ending_new g v h a x t w.0 w.1) [
          | inl o ↦ kept fact (now.true_rows.end t fact (is_some_of (ending g v h t) w.0 o) m)
          | inr n ↦ elim (facts_so t w.0 fact (ag.agrees.ends t w.0.final (ap final_in w.1)) (won t w.0 w.1) (how_ends g v h a x t w.0 now.run al n.0 n.1) m) [
            | inl y ↦ kept fact y
            | inr b ↦ below_after t fact e b
          ]
        ]

    -- one event keeps the rows true
    pub event_keeps : TokenTrue g l rows v (after a x h)
    event_keeps = record {
      ends = ends_after;
      runs = λ t b. elim (begun_now g v h a x t now.run al b) [
        | inl o ↦ now.true_rows.runs t o
        | inr n ↦ ready_runs g l rows v h now t n.1.task n.1.ready n.1.not_requested
      ];
      begin = λ t fact b m. kept fact (elim (begun_now g v h a x t now.run al b) [
        | inl o ↦ now.true_rows.begin t fact o m
        | inr n ↦ ready_begins g l rows v h now t fact n.1.task n.1.ready n.1.not_requested m
      ]);
      end = end_after;
      told = λ t b. told_kept l.assumed.quiet (asked_of rows t) g v h t a x al (elim (begun_now g v h a x t now.run al b) [
        | inl o ↦ now.true_rows.told t o
        | inr n ↦ told_first l.assumed.quiet (asked_of rows t) g v h t now.run n.1.unbegun (λ k m. ready_begins g l rows v h now t (IsRequested k) n.1.task n.1.ready n.1.not_requested m)
      ]);
    }

-- before the first event only WhenAll of nothing has ended
rows_at_first : (g : TaskGraph) (l : LeafAssumed) (rows : List Row) (v : List Bool) → IsGraph g → ClosedWithTokens g l rows → LeafAgrees g l v [] → TokenTrue g l rows v []
rows_at_first g l rows v valid closed ag = record {
  ends = λ t f e. first_end t f (kind g t) refl e (ag.agrees.ends t f e);
  runs = λ t b. true_false (sym b);
  begin = λ t fact b m. true_false (sym b);
  end = λ t fact e m. first_fact t fact (kind g t) refl e m;
  told = λ t b. true_false (sym b);
}
  where
    first_end : (t : ℕ) (f : Final) (k : TaskKind) → kind g t ≡ k → final_in (ended_at_once k) ≡ Some f → end_left l.assumed t f ≡ true → has (row (plain rows) t).ends f ≡ true
    first_end t f (WhenAll []) k e c =
        let f_is = same_Some RanToCompletion f e in
        let rule = subst (λ z. TokenEndsRule g l rows t (with_winners (l.wins t) z)) k (closed t (all_task g t [] k)).ends in
        subst (λ z. has (row (plain rows) t).ends z ≡ true) f_is (rule RanToCompletion (subst (λ z. end_left l.assumed t z ≡ true) (sym f_is) c) (λ x m. true_false (sym m)))
    first_end t f other k e c = some_none f (sym e)

    first_fact : (t : ℕ) (fact : Fact) (k : TaskKind) → kind g t ≡ k → is_some (ended_at_once k) ≡ true → ends_with rows t fact ≡ true → FactHolds g v [] fact
    first_fact t fact (WhenAll []) k e m = let c = subst (λ z. EndRule g l rows t (with_winners (l.wins t) z) fact) k ((closed t (all_task g t [] k)).end fact m) in true_false (sym c.1)
    first_fact t fact other k e m = true_false (sym e)

-- a run that agrees did so before
token_before : (g : TaskGraph) (v : List Bool) (h : List Event) (l : LeafAssumed) (a : Actor) (x : Act) → Allows g v h a x → LeafAgrees g l v (after a x h) → LeafAgrees g l v h
token_before g v h l a x al ag = record {
  agrees = agrees_before g v h l.assumed a x al ag.agrees;
  winners = λ n s e. let r = winner_some (ending g v h n) s e in ag.winners n s (ap winner_of (ending_kept g v h a x n r.0 al r.1) ∙ r.2);
}

-- the rows of a leaf that is closed by the rules with tokens are true of each run that agrees with it
pub token_now : (g : TaskGraph) (l : LeafAssumed) (rows : List Row) (v : List Bool) (h : List Event) → IsGraph g → ClosedWithTokens g l rows → Run g v h → LeafAgrees g l v h → TokenNow g l rows v h
token_now g l rows v [] valid closed run ag = record { valid = valid; closed = closed; run = run; agrees = ag; true_rows = rows_at_first g l rows v valid closed ag }
token_now g l rows v (e ∷ h) valid closed run ag =
    let now = token_now g l rows v h valid closed run.0 (token_before g v h l e.actor e.act run.1 ag) in
    record { valid = valid; closed = closed; run = run; agrees = ag; true_rows = event_keeps g l rows v h now e.actor e.act run.1 ag }

pub begin_holds : (g : TaskGraph) (l : LeafAssumed) (rows : List Row) (v : List Bool) (h : List Event) → IsGraph g → ClosedWithTokens g l rows → Run g v h → LeafAgrees g l v h → BeginHolds g rows v h
begin_holds g l rows v [] valid closed run ag = tt
begin_holds g l rows v (e ∷ h) valid closed run ag =
    let before = token_before g v h l e.actor e.act run.1 ag in
    let now = token_now g l rows v h valid closed run.0 before in
    ((λ t fact b m. let w = begins g v h e.actor e.act t run.0 run.1 b in ready_begins g l rows v h now t fact w.task w.ready w.not_requested m), begin_holds g l rows v h valid closed run.0 before)
