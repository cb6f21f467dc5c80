-- The exception of a task with a chain of rows with tokens is observed in each complete run, also behind WhenAny.
use Rattle.std.proofs.Common.{◌≡◌, ℕ, inl, inr, Bool, true, Some, List, [], ◌∷◌, refl, sym, ap, ◌∙◌, subst}
use Rattle.std.proofs.lemmas.Option.{same_Some}
use Rattle.tpl_model.specs.declared.finals.Final.TheVariants.{RanToCompletion}
use Rattle.tpl_model.specs.Members.{mem}
use Rattle.tpl_model.specs.Options.{allows}
use Rattle.tpl_model.specs.declared.status.Label.{Label}
use Rattle.tpl_model.specs.Graph.{TaskGraph, TaskKind, Continues, WhenAny, kind, options, is_task}
use Rattle.tpl_model.specs.declared.event.Event.{Event}
use Rattle.tpl_model.specs.Facts.{Ending, final_in, winner_of, started, ending, subject_in, subject_of}
use Rattle.tpl_model.specs.Rules.{final, label, seen, Complete, to_end}
use Rattle.tpl_model.specs.Certificate.{row, Row, plain}
use Rattle.tpl_model.specs.TokenRules.{LeafAssumed, with_winners, kind_left, IsWonBy, ReadsWinner, TokenLinks, TokenChainRule}
use Rattle.tpl_laws.proofs.Basics.{the_some}
use Rattle.tpl_laws.proofs.Ready.{any_winner}
use Rattle.tpl_laws.proofs.Settling.{filter_mem, other_task}
use Rattle.tpl_laws.proofs.RowsAreTrue.{Upheld}
use Rattle.tpl_laws.proofs.Chains.{any_ends, taken_over}
use Rattle.tpl_laws.proofs.Observing.{takes_task, seer_observes, reader_observes, thrown_seen}
use Rattle.tpl_laws.proofs.TokenRows.{TokenNow}

pub token_upheld : (g : TaskGraph) (l : LeafAssumed) (rows : List Row) (v : List Bool) (h : List Event) → TokenNow g l rows v h → Upheld g l.assumed (plain rows) v h
token_upheld g l rows v h now = record {
  valid = now.valid;
  run = now.run;
  agrees = now.agrees.agrees;
  ends = now.true_rows.ends;
  runs = now.true_rows.runs;
}

-- a task that somebody alone may win has to end
always_ends : (may_win : ℕ → Bool) (y : ℕ) (k : TaskKind) (s : Bool) → IsWonBy (with_winners may_win k) y → to_end k s ≡ true
always_ends may_win y (WhenAny args) s w = refl
always_ends may_win y k s w = absurd w

module _ (g : TaskGraph) (l : LeafAssumed) (rows : List Row) (v : List Bool) (h : List Event) (now : TokenNow g l rows v h) (complete : Complete g v h) where
  -- and has, to completion, and y won it
  won : (n y : ℕ) → IsWonBy (kind_left g l n) y → (final g v h n ≡ Some RanToCompletion) × (subject_of (kind g n) n (ending g v h n) ≡ Some y)
  won n y w =
      let e = the_some (ending g v h n) (complete n in_graph (always_ends (l.wins n) y (kind g n) (started g v h n) w)) in
      by_kind (kind g n) refl e.0 e.1 w
    where
      in_graph : is_task g n
      in_graph = other_task g n (kind g n) refl (λ r. subst (λ z. IsWonBy (with_winners (l.wins n) z) y) (sym r) w)

      by_kind : (k : TaskKind) → kind g n ≡ k → (q : Ending) → ending g v h n ≡ Some q → IsWonBy (with_winners (l.wins n) k) y → (final g v h n ≡ Some RanToCompletion) × (subject_of k n (ending g v h n) ≡ Some y)
      by_kind (WhenAny args) k q e w =
          let s = any_winner g v h n args q now.run k e in
          let won = ap winner_of e ∙ s.2 in
          let same = w.1 s.0 (filter_mem (l.wins n) s.0 args s.3 (now.agrees.winners n s.0 won)) in
          (ap final_in e ∙ ap Some (any_ends g v h n args q now.run k e).1, won ∙ ap Some same)
      by_kind other k q e w = absurd w

  winner_observes : (r y a : ℕ) (q : Ending) → ReadsWinner g l rows r y (kind g r) → ending g v h y ≡ Some q → mem a q.carried ≡ true → seen g v h a ≡ true
  winner_observes r y a q reads e m = by_kind (kind g r) refl reads
    where
      by_kind : (k : TaskKind) → kind g r ≡ k → ReadsWinner g l rows r y k → seen g v h a ≡ true
      by_kind (Continues n) k w =
          let s = won n y w.0 in
          seer_observes g l.assumed (plain rows) v h r n y a q (token_upheld g l rows v h now) complete k
          (λ f p. subst (λ z. allows (options g r) z ≡ true) (same_Some RanToCompletion f (sym s.0 ∙ p)) w.1) w.2 w.3 (ap (λ z. subject_in g z (ending g v h)) k ∙ s.1, e) m
      by_kind other k w = absurd w

  links_observe : (chain : List ℕ) (y a : ℕ) (q : Ending) → TokenLinks g l rows y chain → ending g v h y ≡ Some q → mem a q.carried ≡ true → seen g v h a ≡ true
  links_observe [] y a q links e m = absurd links
  links_observe (x ∷ []) y a q (inl reads) e m = reader_observes g l.assumed (plain rows) v h x y a q (token_upheld g l rows v h now) complete reads e m
  links_observe (x ∷ []) y a q (inr reads) e m = winner_observes x y a q reads e m
  links_observe (x ∷ z ∷ zs) y a q links e m =
      let w = taken_over g v h x y a q now.valid now.run complete (takes_task g x y links.0) links.0 e m in
      links_observe (z ∷ zs) x a w.0 links.1 w.1 w.2

  -- in a complete run the exception that the body of a task with a chain threw is seen
  pub token_chain_seen : (t : ℕ) (lb : Label) → ((row (plain rows) t).chain ≡ [] → ⊥) → label g v h t ≡ Some lb → seen g v h t ≡ true
  token_chain_seen t lb some_chain e = thrown_seen g v h t lb now.run complete e (λ i q en m. by_chain (row (plain rows) t).chain refl (now.closed t i).chain q en m)
    where
      by_chain : (chain : List ℕ) → (row (plain rows) t).chain ≡ chain → TokenChainRule g l rows t chain → (q : Ending) → ending g v h t ≡ Some q → mem t q.carried ≡ true → seen g v h t ≡ true
      by_chain [] c r q e m = absurd (some_chain c)
      by_chain (x ∷ xs) c r q e m = links_observe (x ∷ xs) t t q r e m
