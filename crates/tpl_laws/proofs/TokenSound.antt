-- What a certificate of rows with tokens proves holds.
use Rattle.tpl_model.specs.declared.rule_set.RuleSet.TheVariants.{WithTokens}
use Rattle.std.proofs.Common.{◌≡◌, ℕ, ◌||◌, inl, inr, not, nat_eq, Bool, true, false, Option, Some, None, List, [], ◌∷◌, refl, sym, ap, ◌∙◌, subst}
use Rattle.std.proofs.lemmas.Option.{same_Some}
use Rattle.std.proofs.lemmas.Bool.{cases_Bool, and_from}
use Rattle.tpl_model.proofs.Truths.{true_false}
use Rattle.tpl_model.specs.declared.finals.Final.{Final}
use Rattle.tpl_model.specs.declared.finals.Final.TheVariants.{RanToCompletion, Canceled, Faulted}
use Rattle.tpl_model.specs.Finals.{is_final}
use Rattle.tpl_model.specs.declared.status.Label.{Label}
use Rattle.tpl_model.specs.Knowledge.{IsSettled}
use Rattle.tpl_model.specs.Graph.{TaskGraph}
use Rattle.tpl_model.specs.declared.event.Event.{Event}
use Rattle.tpl_model.specs.declared.outcome.Outcome.TheVariants.{Threw}
use Rattle.tpl_model.specs.Facts.{rest, ending, final_in, outcome_in, winner_of}
use Rattle.tpl_model.specs.Rules.{Run, label, seen, Complete}
use Rattle.tpl_model.specs.Valid.{IsGraph}
use Rattle.tpl_model.specs.declared.ids.TaskId.{TaskId}
use Rattle.tpl_model.specs.declared.claim.Property.{Property}
use Rattle.tpl_model.specs.declared.claim.Property.TheVariants.{Observed}
use Rattle.tpl_model.specs.Claims.{input, Claim, IsGiven}
use Rattle.tpl_model.specs.Certificate.{same, own_quiet, taken, Row, plain, Tree, OnInput, OnEnd, OnWinner, RowsLeaf, LeastLeaf}
use Rattle.tpl_model.specs.TokenRules.{LeafAssumed, LeafAgrees, ClosedWithTokens, ProvesWithTokens, narrowed, input_split, end_split, winner_split, assumed_with_tokens}
use Rattle.tpl_laws.specs.TokenTrees.{AcceptsTokenTree, written}
use Rattle.tpl_laws.specs.LeastRows.{least_rows}
use Rattle.tpl_laws.specs.SoundnessWithTokens.{HasRows, SomeTokenLeafIsTrue, TokenRowsAreTrue, TokenSoundness}
use Rattle.tpl_laws.proofs.Basics.{some_none, the_some, same_number, final_self}
use Rattle.tpl_laws.proofs.Carrying.{carries_faulted}
use Rattle.tpl_laws.proofs.Chains.{carries_own, threw_begun, begun_ends}
use Rattle.tpl_laws.proofs.Observing.{label_verdict}
use Rattle.tpl_laws.proofs.TokenRows.{TokenNow, ready_runs, ready_begins, throw_known}
use Rattle.tpl_laws.proofs.TokenEvents.{token_now, begin_holds}
use Rattle.tpl_laws.proofs.TokenChains.{token_upheld, token_chain_seen}
use Rattle.tpl_laws.proofs.Destinies.{destiny, destiny_ended, narrowed_agrees}
use Rattle.tpl_laws.proofs.MainTheorem.{Shows, ALeaf, never_complete, given_agrees, input_agrees, end_agrees, is_taken, property_holds}

pub token_rows_lem : TokenRowsAreTrue
token_rows_lem g l rows v h valid closed run agrees =
    let now = token_now g l rows v h valid closed run agrees in (
      record {
        ends = now.true_rows.ends;
        runs = now.true_rows.runs;
        end = now.true_rows.end;
        observed = λ t c complete lb e. token_chain_seen g l rows v h now complete t lb c e;
      },
      begin_holds g l rows v h valid closed run agrees,
    )

-- what a closed leaf proves, it shows
token_shows : (g : TaskGraph) (l : LeafAssumed) (rows : List Row) (v : List Bool) (h : List Event) (p : Property TaskId) → TokenNow g l rows v h → ProvesWithTokens g l rows p → Shows g l.assumed (plain rows) v h p
token_shows g l rows v h (Observed t) now pr = λ complete lb e. by_proof lb complete e (label_verdict (outcome_in (rest g v h t.0)) lb e) pr
  where
    by_proof : (lb : Label) → Complete g v h → label g v h t.0 ≡ Some lb → outcome_in (rest g v h t.0) ≡ Some (Threw lb) → ProvesWithTokens g l rows (Observed t) → seen g v h t.0 ≡ true
    by_proof lb complete e threw (inl c) = token_chain_seen g l rows v h now complete t.0 lb c e
    by_proof lb complete e threw (inr (inl no_fault)) =
        let q = the_some (ending g v h t.0) (begun_ends g v h t.0 now.run complete (threw_begun g v h t.0 lb now.run threw)) in
        let f = carries_faulted g v h t.0 t.0 q.0 now.run q.1 (carries_own g v h t.0 lb q.0 now.run threw q.1) in
        true_false (sym (now.true_rows.ends t.0 Faulted (ap final_in q.1 ∙ ap Some f)) ∙ no_fault)
    by_proof lb complete e threw (inr (inr (inl no_run))) = true_false (sym (now.true_rows.runs t.0 (threw_begun g v h t.0 lb now.run threw)) ∙ no_run)
    by_proof lb complete e threw (inr (inr (inr (inl none)))) =
        let b = threw_begun g v h t.0 lb now.run threw in
        let w = throw_known g l rows v h now t.0 lb threw b (begun_ends g v h t.0 now.run complete b) in
        some_none w.0 (sym w.1 ∙ none)
    by_proof lb complete e threw (inr (inr (inr (inr never)))) = absurd (never_complete g l.assumed (plain rows) v h (token_upheld g l rows v h now) never complete)
token_shows g l rows v h p now pr = pr

-- a leaf of an accepted tree that agrees with a run so far
pub record ATokenLeaf (g : TaskGraph) (p : Property TaskId) (tree : Tree) (v : List Bool) (h : List Event) : Type 0 where
  pub assumes : LeafAssumed
  pub rows : List Row
  pub has : HasRows tree rows
  pub agrees : LeafAgrees g assumes v h
  pub closed : ClosedWithTokens g assumes rows
  pub proves : ProvesWithTokens g assumes rows p

-- it is found by taking at each split on an end the branch by which the task is bound to end, and at each split on a
-- winner the branch of the winner, or either while there is none
module _ (g : TaskGraph) (p : Property TaskId) (v : List Bool) (h : List Event) (valid : IsGraph g) (run : Run g v h) where
  abbrev Bound : LeafAssumed → Type 0
  Bound l = (s : ℕ) → l.assumed.left s (destiny g v h s) ≡ true

  bound_end : (l : LeafAssumed) (t : ℕ) (f : Final) → destiny g v h t ≡ f → Bound l → Bound (end_split l t f)
  bound_end l t f e b = λ s. and_from (l.assumed.left s (destiny g v h s)) (not (nat_eq t s) || is_final f (destiny g v h s)) (b s) (by_test s (nat_eq t s) refl)
    where
      by_test : (s : ℕ) (c : Bool) → nat_eq t s ≡ c → not c || is_final f (destiny g v h s) ≡ true
      by_test s false q = refl
      by_test s true q = subst (λ z. is_final f z ≡ true) (sym (ap (destiny g v h) (sym (same_number t s q)) ∙ e)) (final_self f)

  takes_end : (l : LeafAssumed) (t : ℕ) (f : Final) → destiny g v h t ≡ f → LeafAgrees g l v h → LeafAgrees g (end_split l t f) v h
  takes_end l t f e agrees = record {
    agrees = end_agrees g l.assumed v h t f (λ z q. subst (λ w. is_final f w ≡ true) (sym e ∙ destiny_ended g v h t z q) (final_self f)) agrees.agrees;
    winners = agrees.winners;
  }

  takes_input : (l : LeafAssumed) (i : ℕ) (value : Bool) → input v i ≡ value → LeafAgrees g l v h → LeafAgrees g (input_split l i value) v h
  takes_input l i value e agrees = record { agrees = input_agrees g l.assumed v h i value e agrees.agrees; winners = agrees.winners }

  -- this branch has the winner of n, if there is one
  abbrev HasWinner : ℕ → ℕ → Bool → Type 0
  HasWinner n x value = (w : ℕ) → winner_of (ending g v h n) ≡ Some w → same value (nat_eq x w) ≡ true

  takes_winner : (l : LeafAssumed) (n x : ℕ) (value : Bool) → HasWinner n x value → LeafAgrees g l v h → LeafAgrees g (winner_split l n x value) v h
  takes_winner l n x value won agrees = record {
    agrees = agrees.agrees;
    winners = λ m w e. and_from (l.wins m w) (not (nat_eq n m) || same value (nat_eq x w)) (agrees.winners m w e) (by_test m w e (nat_eq n m) refl);
  }
    where
      by_test : (m w : ℕ) → winner_of (ending g v h m) ≡ Some w → (c : Bool) → nat_eq n m ≡ c → not c || same value (nat_eq x w) ≡ true
      by_test m w e false q = refl
      by_test m w e true q = won w (subst (λ z. winner_of (ending g v h z) ≡ Some w) (sym (same_number n m q)) e)

  by_winner : (n x : ℕ) (A : Type 0) (o : Option ℕ) → winner_of (ending g v h n) ≡ o → (HasWinner n x true → A) → (HasWinner n x false → A) → A
  by_winner n x A None q on_yes on_no = on_yes (λ w e. some_none w (sym e ∙ q))
  by_winner n x A (Some s) q on_yes on_no =
      elim (cases_Bool (nat_eq x s)) [
        | inl c ↦ on_yes (λ w e. subst (λ z. nat_eq x z ≡ true) (same_Some s w (sym q ∙ e)) c)
        | inr c ↦ on_no (λ w e. subst (λ z. not (nat_eq x z) ≡ true) (same_Some s w (sym q ∙ e)) (ap not c))
      ]

  -- a leaf of a branch is one of the tree; one without rows has the least ones
  of_branch : (tree branch : Tree) → ((rows : List Row) → HasRows branch rows → HasRows tree rows) → ATokenLeaf g p branch v h → ATokenLeaf g p tree v h
  of_branch tree branch has leaf = record { assumes = leaf.assumes; rows = leaf.rows; has = has leaf.rows leaf.has; agrees = leaf.agrees; closed = leaf.closed; proves = leaf.proves }

  pub some_leaf : (l : LeafAssumed) (tree : Tree) → LeafAgrees g l v h → Bound l → AcceptsTokenTree g p l tree → ATokenLeaf g p (written g p l tree) v h
  some_leaf l (OnInput i a b) agrees bound acc =
      elim (cases_Bool (input v i)) [
        | inl e ↦ of_branch (written g p l (OnInput i a b)) (written g p (input_split l i true) a) (λ rows h. inl h) (some_leaf (input_split l i true) a (takes_input l i true e agrees) bound acc.1)
        | inr e ↦ of_branch (written g p l (OnInput i a b)) (written g p (input_split l i false) b) (λ rows h. inr h) (some_leaf (input_split l i false) b (takes_input l i false e agrees) bound acc.2)
      ]
  some_leaf l (OnEnd t a b c) agrees bound acc =
      by_end (destiny g v h t) refl
      (λ e. of_branch (written g p l (OnEnd t a b c)) (written g p (end_split l t RanToCompletion) a) (λ rows h. inl h) (some_leaf (end_split l t RanToCompletion) a (takes_end l t RanToCompletion e agrees) (bound_end l t RanToCompletion e bound) acc.1))
      (λ e. of_branch (written g p l (OnEnd t a b c)) (written g p (end_split l t Canceled) b) (λ rows h. inr (inl h)) (some_leaf (end_split l t Canceled) b (takes_end l t Canceled e agrees) (bound_end l t Canceled e bound) acc.2))
      (λ e. of_branch (written g p l (OnEnd t a b c)) (written g p (end_split l t Faulted) c) (λ rows h. inr (inr h)) (some_leaf (end_split l t Faulted) c (takes_end l t Faulted e agrees) (bound_end l t Faulted e bound) acc.3))
    where
      by_end : {A : Type 0} (f : Final) → destiny g v h t ≡ f → (destiny g v h t ≡ RanToCompletion → A) → (destiny g v h t ≡ Canceled → A) → (destiny g v h t ≡ Faulted → A) → A
      by_end RanToCompletion e x y z = x e
      by_end Canceled e x y z = y e
      by_end Faulted e x y z = z e
  some_leaf l (OnWinner n x a b) agrees bound acc =
      by_winner n x (ATokenLeaf g p (written g p l (OnWinner n x a b)) v h) (winner_of (ending g v h n)) refl
      (λ won. of_branch (written g p l (OnWinner n x a b)) (written g p (winner_split l n x true) a) (λ rows h. inl h) (some_leaf (winner_split l n x true) a (takes_winner l n x true won agrees) bound acc.1))
      (λ won. of_branch (written g p l (OnWinner n x a b)) (written g p (winner_split l n x false) b) (λ rows h. inr h) (some_leaf (winner_split l n x false) b (takes_winner l n x false won agrees) bound acc.2))
  some_leaf l (RowsLeaf rows) agrees bound acc =
      record { assumes = narrowed g l; rows = rows; has = refl; agrees = narrowed_agrees g v h valid run l agrees bound; closed = acc.3.0; proves = acc.3.1 }
  some_leaf l LeastLeaf agrees bound acc =
      record { assumes = narrowed g l; rows = least_rows g (narrowed g l) p; has = refl; agrees = narrowed_agrees g v h valid run l agrees bound; closed = acc.0; proves = acc.1 }

a_token_leaf : (g : TaskGraph) (claim : Claim) (tree : Tree) (v : List Bool) (h : List Event) → IsGraph g → AcceptsTokenTree g claim.body (assumed_with_tokens g claim) tree → Run g v h → IsGiven g v h claim.given → IsGiven g v h (own_quiet g claim.body) → ALeaf g v h claim.body
a_token_leaf g claim tree v h valid acc run i q =
    let w = some_leaf g claim.body v h valid run (assumed_with_tokens g claim) tree
    (record { agrees = given_agrees g v h (taken WithTokens g claim) (is_taken WithTokens g claim v h i q); winners = λ n x e. refl }) (λ s. refl) acc in
    let now = token_now g w.assumes w.rows v h valid w.closed run w.agrees in
    record {
      assumes = w.assumes.assumed;
      rows = plain w.rows;
      upheld = token_upheld g w.assumes w.rows v h now;
      runs = λ t b. ready_runs g w.assumes w.rows v h now t b.task b.ready b.not_requested;
      before = λ t x b m. ready_begins g w.assumes w.rows v h now t (IsSettled x) b.task b.ready b.not_requested m;
      shows = token_shows g w.assumes w.rows v h claim.body now w.proves;
    }

pub token_soundness_lem : TokenSoundness
token_soundness_lem g [] [] valid acc v h run = tt
token_soundness_lem g (claim ∷ claims) (tree ∷ trees) valid acc v h run = (
  λ i. property_holds g claim.given v claim.body (λ k r j q. a_token_leaf g claim tree v k valid acc.0 r j q) h run i,
  token_soundness_lem g claims trees valid acc.1 v h run,
)
token_soundness_lem g [] (tree ∷ trees) valid acc v h run = tt
token_soundness_lem g (claim ∷ claims) [] valid acc v h run = absurd acc

pub some_token_leaf_lem : SomeTokenLeafIsTrue
some_token_leaf_lem g claim tree v h valid acc run given =
    let leaf = some_leaf g claim.body v h valid run (assumed_with_tokens g claim) tree (record { agrees = given_agrees g v h (taken WithTokens g claim) given; winners = λ n x e. refl }) (λ s. refl) acc in
    (leaf.rows, leaf.has, (token_rows_lem g leaf.assumes leaf.rows v h valid leaf.closed run leaf.agrees).0)
