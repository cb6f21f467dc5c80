-- The rules with tokens for rows with tokens are decided by their tests.
use Rattle.std.proofs.Common.{◌≡◌, ℕ, ◌⊎◌, ◌&&◌, ◌||◌, not, Bool, true, false, Option, Some, None, List, [], ◌∷◌, refl, sym, ◌∙◌, subst, nat_eq, is_some}
use Rattle.std.proofs.lemmas.Option.{same_Some}
use Rattle.std.specs.Prelude.{Decides}
use Rattle.tpl_model.proofs.Truths.{true_false}
use Rattle.tpl_model.specs.declared.finals.Final.{Final}
use Rattle.tpl_model.specs.declared.finals.Final.TheVariants.{RanToCompletion, Canceled, Faulted}
use Rattle.tpl_model.specs.Finals.{has}
use Rattle.tpl_model.specs.Members.{mem}
use Rattle.tpl_model.specs.Options.{allows, lazy_cancellation}
use Rattle.tpl_model.specs.Paths.{MustObserve}
use Rattle.tpl_model.specs.Recursion.{must_observe}
use Rattle.tpl_model.specs.Knowledge.{Fact, IsSettled, IsRequested, Knowledge, at_throw}
use Rattle.tpl_model.specs.Graph.{TaskGraph, TaskKind, Root, Child, Continues, WhenAll, WhenAny, task, kind, body, options, some_in, IsParent}
use Rattle.tpl_model.specs.Rules.{token_requested_by}
use Rattle.tpl_model.specs.Valid.{IsGraph}
use Rattle.tpl_model.specs.declared.ids.TaskId.{TaskId}
use Rattle.tpl_model.specs.declared.claim.Property.{Property}
use Rattle.tpl_model.specs.declared.claim.Property.TheVariants.{Observed}
use Rattle.tpl_model.specs.Certificate.{row, end_left, is_loud, AllMayEnd, may_end, TakesOver, Reads, NoneComplete, Row, plain}
use Rattle.tpl_model.specs.TokenRules.{whole_row, begins_with, ends_with, once_ended, linked, LeafAssumed, kind_left, reading, asked_of, known_at_end, known_at_start, own_among, may_run, TokenRunsRule, Way, ByBody, RootDropped, ChildDropped, DroppedEarly, DroppedLate, NotAllowed, way_final, MayEndBy, IsWay, OwnRequested, SettledBefore, KnownThere, BeforeBegin, HoldsBy, TokenEndsRule, BeginRule, SettledBelow, EndRule, IsWonBy, ReadsWinner, TokenLinks, TokenChainRule, IsClosedWithTokens, ProvesWithTokens}
use Rattle.tpl_laws.specs.PathLaws.{PathLaws}
use Rattle.tpl_laws.specs.RowTests.{implies, all_in, each_end, some_end, all_may_end, takes_over, faulted_view, reads, is_none, none_complete}
use Rattle.tpl_laws.specs.TokenTests.{if_known, each_begin, each_ending, token_runs_by, each_drop, each_body_end, each_way, token_ends_by, begin_by, own_requested, settled_before, known_there, before_begin, holds_by, settled_below, end_by, is_won_by, reads_winner, token_links, token_chain, token_broken, token_proves}
use Rattle.tpl_laws.proofs.Deciding.{itself, opposite, denied, same, both, either, only_if, means, at_each_end, at_some_end, of_all, of_some}
use Rattle.tpl_laws.proofs.Parents.{at_parent, below}
use Rattle.tpl_laws.proofs.RulesDecided.{observes_it, all_decided, takes_decided, reads_decided, none_decided, none_complete_decided}
use Rattle.tpl_laws.proofs.ClaimsDecided.{proves_lem}
use Rattle.tpl_laws.specs.TokenFaults.{token_row_rules}
use Rattle.tpl_laws.proofs.FaultsDecided.{Clears, clear_means, rules_clear}

-- what is known, if there are paths
at_known : (P : Knowledge → Type 0) (q : Knowledge → Bool) (o : Option Knowledge) → ((k : Knowledge) → Decides (q k) (P k)) → Decides (if_known o q) ((k : Knowledge) → o ≡ Some k → P k)
at_known P q None d = (λ e k s. absurd (cc), λ f. refl)
at_known P q (Some a) d = (λ e k s. subst P (same_Some a k s) ((d a).0 e), λ f. (d a).1 (f a refl))

-- the facts of a begin and of an end
of_facts : (P : Fact → Type 0) (q : Fact → Bool) (xs ks : List ℕ) → ((f : Fact) → Decides (q f) (P f))
    → Decides (all_in (λ x. q (IsSettled x)) xs && all_in (λ k. q (IsRequested k)) ks) (((x : ℕ) → mem x xs ≡ true → P (IsSettled x)) × ((k : ℕ) → mem k ks ≡ true → P (IsRequested k)))
of_facts P q xs ks d =
    both ((x : ℕ) → mem x xs ≡ true → P (IsSettled x)) ((k : ℕ) → mem k ks ≡ true → P (IsRequested k)) (all_in (λ x. q (IsSettled x)) xs) (all_in (λ k. q (IsRequested k)) ks)
    (of_all (λ x. P (IsSettled x)) (λ x. q (IsSettled x)) xs (λ x. d (IsSettled x)))
    (of_all (λ k. P (IsRequested k)) (λ k. q (IsRequested k)) ks (λ k. d (IsRequested k)))

by_fact : (P : Fact → Type 0) → ((x : ℕ) → P (IsSettled x)) → ((k : ℕ) → P (IsRequested k)) → (f : Fact) → P f
by_fact P a b (IsSettled x) = a x
by_fact P a b (IsRequested k) = b k

-- those among which a test finds what stands in two lists
facts_decided : (among : Fact → Bool) (xs ks : List ℕ) → ((x : ℕ) → among (IsSettled x) ≡ mem x xs) → ((k : ℕ) → among (IsRequested k) ≡ mem k ks) → (P : Fact → Type 0) (q : Fact → Bool) → ((f : Fact) → Decides (q f) (P f))
    → Decides (all_in (λ x. q (IsSettled x)) xs && all_in (λ k. q (IsRequested k)) ks) ((f : Fact) → among f ≡ true → P f)
facts_decided among xs ks settled requested P q d =
    means (((x : ℕ) → mem x xs ≡ true → P (IsSettled x)) × ((k : ℕ) → mem k ks ≡ true → P (IsRequested k))) ((f : Fact) → among f ≡ true → P f) (all_in (λ x. q (IsSettled x)) xs && all_in (λ k. q (IsRequested k)) ks)
    (of_facts P q xs ks d)
    (λ e. by_fact (λ f. among f ≡ true → P f) (λ x m. e.0 x (sym (settled x) ∙ m)) (λ k m. e.1 k (sym (requested k) ∙ m)))
    (λ f. ((λ x m. f (IsSettled x) (settled x ∙ m)), (λ k m. f (IsRequested k) (requested k ∙ m))))

begin_decided : (rows : List Row) (t : ℕ) (P : Fact → Type 0) (q : Fact → Bool) → ((f : Fact) → Decides (q f) (P f)) → Decides (each_begin rows t q) ((f : Fact) → begins_with rows t f ≡ true → P f)
begin_decided rows t P q d = facts_decided (begins_with rows t) (row (plain rows) t).before (whole_row rows t).asked (λ x. refl) (λ k. refl) P q d

ending_decided : (rows : List Row) (t : ℕ) (P : Fact → Type 0) (q : Fact → Bool) → ((f : Fact) → Decides (q f) (P f)) → Decides (each_ending rows t q) ((f : Fact) → ends_with rows t f ≡ true → P f)
ending_decided rows t P q d = facts_decided (ends_with rows t) (row (plain rows) t).past (whole_row rows t).asks (λ x. refl) (λ k. refl) P q d

module _ (g : TaskGraph) (l : LeafAssumed) (rows : List Row) (t : ℕ) (valid : IsGraph g) where
  -- it runs, unless its token is known
  unless_known : (o : Option ℕ) (tokens : ℕ → Bool) (r : Bool) → Decides (implies (not (token_requested_by o tokens)) r) (token_requested_by o tokens ≡ false → r ≡ true)
  unless_known o tokens r = only_if (token_requested_by o tokens ≡ false) (r ≡ true) (not (token_requested_by o tokens)) r (opposite (token_requested_by o tokens)) (itself r)

  pub runs_decided : (k : TaskKind) → Decides (token_runs_by g l rows t k) (TokenRunsRule g l rows t k)
  runs_decided Root = itself (may_run rows t)
  runs_decided (Continues a) =
      let own : ℕ → Bool = λ k. mem k (whole_row rows a).asks in
      let unknown = implies (not (own_among g t own)) (may_run rows t) in
      at_each_end (λ f. has (row (plain rows) a).ends f ≡ true → allows (options g t) f ≡ true → own_among g t own ≡ false → may_run rows t ≡ true)
      (λ f. implies (has (row (plain rows) a).ends f) (implies (allows (options g t) f) unknown))
      (λ f.
      only_if (has (row (plain rows) a).ends f ≡ true) (allows (options g t) f ≡ true → own_among g t own ≡ false → may_run rows t ≡ true) (has (row (plain rows) a).ends f) (implies (allows (options g t) f) unknown) (itself (has (row (plain rows) a).ends f))
      (only_if (allows (options g t) f ≡ true) (own_among g t own ≡ false → may_run rows t ≡ true) (allows (options g t) f) unknown (itself (allows (options g t) f)) (unless_known (task g t).token own (may_run rows t))))
  runs_decided Child =
      means ((p : ℕ) → IsParent g p t → may_run rows p ≡ true → (known : Knowledge) → known_at_start g l rows p t ≡ Some known → own_among g t known.requested ≡ false → may_run rows t ≡ true) (TokenRunsRule g l rows t Child) (token_runs_by g l rows t Child)
      (at_parent g t (λ p. may_run rows p ≡ true → (known : Knowledge) → known_at_start g l rows p t ≡ Some known → own_among g t known.requested ≡ false → may_run rows t ≡ true)
      (λ p. implies (may_run rows p) (if_known (known_at_start g l rows p t) (λ known. implies (not (own_among g t known.requested)) (may_run rows t)))) valid
      (λ p.
      only_if (may_run rows p ≡ true) ((known : Knowledge) → known_at_start g l rows p t ≡ Some known → own_among g t known.requested ≡ false → may_run rows t ≡ true) (may_run rows p) (if_known (known_at_start g l rows p t) (λ known. implies (not (own_among g t known.requested)) (may_run rows t))) (itself (may_run rows p))
      (at_known (λ known. own_among g t known.requested ≡ false → may_run rows t ≡ true) (λ known. implies (not (own_among g t known.requested)) (may_run rows t)) (known_at_start g l rows p t)
      (λ known. unless_known (task g t).token known.requested (may_run rows t)))))
      (λ f p known par run e n. f p par run known e n)
      (λ f p par run known e n. f p known par run e n)
  runs_decided (WhenAll args) = (λ e. tt, λ u. refl)
  runs_decided (WhenAny args) = (λ e. tt, λ u. refl)

  -- each way to end
  module _ (P : Way → Type 0) (q : Way → Bool) (d : (way : Way) → Decides (q way) (P way)) where
    bodies_decided : Decides (each_body_end g l rows t q) (may_run rows t ≡ true → (f : Final) → end_left l.assumed t f ≡ true → (known : Knowledge) → known_at_end g l rows t f ≡ Some known → P (ByBody f known))
    bodies_decided =
        let test : Final → Bool = λ f. implies (end_left l.assumed t f) (if_known (known_at_end g l rows t f) (λ known. q (ByBody f known))) in
        only_if (may_run rows t ≡ true) ((f : Final) → end_left l.assumed t f ≡ true → (known : Knowledge) → known_at_end g l rows t f ≡ Some known → P (ByBody f known)) (may_run rows t) (each_end test) (itself (may_run rows t))
        (at_each_end (λ f. end_left l.assumed t f ≡ true → (known : Knowledge) → known_at_end g l rows t f ≡ Some known → P (ByBody f known)) test
        (λ f. only_if (end_left l.assumed t f ≡ true) ((known : Knowledge) → known_at_end g l rows t f ≡ Some known → P (ByBody f known)) (end_left l.assumed t f) (if_known (known_at_end g l rows t f) (λ known. q (ByBody f known))) (itself (end_left l.assumed t f))
        (at_known (λ known. P (ByBody f known)) (λ known. q (ByBody f known)) (known_at_end g l rows t f) (λ known. d (ByBody f known)))))

    -- the ways of a kind to be canceled before it begins
    abbrev Drops : TaskKind → Type 0
    Drops Root = is_loud g l.assumed t ≡ true → P RootDropped
    Drops Child = (p : ℕ) → IsParent g p t → (is_loud g l.assumed t ≡ true) × (may_run rows p ≡ true) → (known : Knowledge) → known_at_start g l rows p t ≡ Some known → P (ChildDropped p known)
    Drops (Continues a) =
        ((is_loud g l.assumed t ≡ true) × (lazy_cancellation (options g t) ≡ false) → P DroppedEarly)
        × (((is_loud g l.assumed t ≡ true) × (may_end (plain rows) a ≡ true) → P DroppedLate)
        × (((f : Final) × ((has (row (plain rows) a).ends f ≡ true) × (allows (options g t) f ≡ false))) → P NotAllowed))
    Drops (WhenAll args) = Unit {0}
    Drops (WhenAny args) = Unit {0}

    drops_decided : (k : TaskKind) → Decides (each_drop g l rows t k q) (Drops k)
    drops_decided Root = only_if (is_loud g l.assumed t ≡ true) (P RootDropped) (is_loud g l.assumed t) (q RootDropped) (itself (is_loud g l.assumed t)) (d RootDropped)
    drops_decided Child =
        at_parent g t (λ p. (is_loud g l.assumed t ≡ true) × (may_run rows p ≡ true) → (known : Knowledge) → known_at_start g l rows p t ≡ Some known → P (ChildDropped p known))
        (λ p. implies (is_loud g l.assumed t && may_run rows p) (if_known (known_at_start g l rows p t) (λ known. q (ChildDropped p known)))) valid
        (λ p. only_if ((is_loud g l.assumed t ≡ true) × (may_run rows p ≡ true)) ((known : Knowledge) → known_at_start g l rows p t ≡ Some known → P (ChildDropped p known)) (is_loud g l.assumed t && may_run rows p) (if_known (known_at_start g l rows p t) (λ known. q (ChildDropped p known)))
        (both (is_loud g l.assumed t ≡ true) (may_run rows p ≡ true) (is_loud g l.assumed t) (may_run rows p) (itself (is_loud g l.assumed t)) (itself (may_run rows p)))
        (at_known (λ known. P (ChildDropped p known)) (λ known. q (ChildDropped p known)) (known_at_start g l rows p t) (λ known. d (ChildDropped p known))))
    drops_decided (Continues a) =
        let early = is_loud g l.assumed t && not (lazy_cancellation (options g t)) in
        let late = is_loud g l.assumed t && may_end (plain rows) a in
        let other = some_end (λ f. has (row (plain rows) a).ends f && not (allows (options g t) f)) in
        let Early = (is_loud g l.assumed t ≡ true) × (lazy_cancellation (options g t) ≡ false) in
        let Late = (is_loud g l.assumed t ≡ true) × (may_end (plain rows) a ≡ true) in
        let Other = (f : Final) × ((has (row (plain rows) a).ends f ≡ true) × (allows (options g t) f ≡ false)) in
        both (Early → P DroppedEarly) ((Late → P DroppedLate) × (Other → P NotAllowed)) (implies early (q DroppedEarly)) (implies late (q DroppedLate) && implies other (q NotAllowed))
        (only_if Early (P DroppedEarly) early (q DroppedEarly)
        (both (is_loud g l.assumed t ≡ true) (lazy_cancellation (options g t) ≡ false) (is_loud g l.assumed t) (not (lazy_cancellation (options g t))) (itself (is_loud g l.assumed t)) (opposite (lazy_cancellation (options g t))))
        (d DroppedEarly))
        (both (Late → P DroppedLate) (Other → P NotAllowed) (implies late (q DroppedLate)) (implies other (q NotAllowed))
        (only_if Late (P DroppedLate) late (q DroppedLate) (both (is_loud g l.assumed t ≡ true) (may_end (plain rows) a ≡ true) (is_loud g l.assumed t) (may_end (plain rows) a) (itself (is_loud g l.assumed t)) (itself (may_end (plain rows) a))) (d DroppedLate))
        (only_if Other (P NotAllowed) other (q NotAllowed)
        (at_some_end (λ f. (has (row (plain rows) a).ends f ≡ true) × (allows (options g t) f ≡ false)) (λ f. has (row (plain rows) a).ends f && not (allows (options g t) f))
        (λ f. both (has (row (plain rows) a).ends f ≡ true) (allows (options g t) f ≡ false) (has (row (plain rows) a).ends f) (not (allows (options g t) f)) (itself (has (row (plain rows) a).ends f)) (opposite (allows (options g t) f))))
        (d NotAllowed)))
    drops_decided (WhenAll args) = (λ e. tt, λ u. refl)
    drops_decided (WhenAny args) = (λ e. tt, λ u. refl)

    abbrev AllWays : TaskKind → Type 0
    AllWays k = (way : Way) → (end_left l.assumed t (way_final way) ≡ true) × MayEndBy g l rows t k way → P way

    abbrev Parts : TaskKind → Type 0
    Parts k = (may_run rows t ≡ true → (f : Final) → end_left l.assumed t f ≡ true → (known : Knowledge) → known_at_end g l rows t f ≡ Some known → P (ByBody f known)) × (end_left l.assumed t Canceled ≡ true → Drops k)

    to_ways : (k : TaskKind) → Parts k → AllWays k
    to_ways k e (ByBody f known) w = e.0 w.1.0 f w.0 known w.1.1
    to_ways Root e RootDropped w = e.1 w.0 w.1
    to_ways Child e (ChildDropped p known) w = e.1 w.0 p w.1.1 (w.1.0, w.1.2) known w.1.3
    to_ways (Continues a) e DroppedEarly w = (e.1 w.0).0 w.1
    to_ways (Continues a) e DroppedLate w = (e.1 w.0).1.0 w.1
    to_ways (Continues a) e NotAllowed w = (e.1 w.0).1.1 (w.1.0, (w.1.1, w.1.2))
    to_ways k e way w = absurd w.1

    from_ways : (k : TaskKind) → AllWays k → Parts k
    from_ways k f = ((λ run e cut known s. f (ByBody e known) (cut, (run, s))), λ cut. drops k f cut)
      where
        drops : (k : TaskKind) → AllWays k → end_left l.assumed t Canceled ≡ true → Drops k
        drops Root f cut = λ loud. f RootDropped (cut, loud)
        drops Child f cut = λ p par both known s. f (ChildDropped p known) (cut, (both.0, par, both.1, s))
        drops (Continues a) f cut = ((λ e. f DroppedEarly (cut, e)), ((λ e. f DroppedLate (cut, e)), (λ e. f NotAllowed (cut, (e.0, e.1.0, e.1.1)))))
        drops (WhenAll args) f cut = tt
        drops (WhenAny args) f cut = tt

    ways_decided : Decides (each_way g l rows t q) ((way : Way) → IsWay g l rows t way → P way)
    ways_decided =
        means (Parts (kind g t)) ((way : Way) → IsWay g l rows t way → P way) (each_way g l rows t q)
        (both (may_run rows t ≡ true → (f : Final) → end_left l.assumed t f ≡ true → (known : Knowledge) → known_at_end g l rows t f ≡ Some known → P (ByBody f known)) (end_left l.assumed t Canceled ≡ true → Drops (kind g t)) (each_body_end g l rows t q) (implies (end_left l.assumed t Canceled) (each_drop g l rows t (kind g t) q))
        bodies_decided
        (only_if (end_left l.assumed t Canceled ≡ true) (Drops (kind g t)) (end_left l.assumed t Canceled) (each_drop g l rows t (kind g t) q) (itself (end_left l.assumed t Canceled)) (drops_decided (kind g t))))
        (to_ways (kind g t)) (from_ways (kind g t))

  way_has : Decides (each_way g l rows t (λ way. has (row (plain rows) t).ends (way_final way))) ((way : Way) → IsWay g l rows t way → has (row (plain rows) t).ends (way_final way) ≡ true)
  way_has = ways_decided (λ way. has (row (plain rows) t).ends (way_final way) ≡ true) (λ way. has (row (plain rows) t).ends (way_final way)) (λ way. itself (has (row (plain rows) t).ends (way_final way)))

  pub ends_decided : PathLaws → (k : TaskKind) → Decides (token_ends_by g l rows t k) (TokenEndsRule g l rows t k)
  ends_decided paths (WhenAll args) =
      at_each_end (λ f. end_left l.assumed t f ≡ true → AllMayEnd (plain rows) args f → has (row (plain rows) t).ends f ≡ true) (λ f. implies (end_left l.assumed t f) (implies (all_may_end (plain rows) args f) (has (row (plain rows) t).ends f)))
      (λ f. only_if (end_left l.assumed t f ≡ true) (AllMayEnd (plain rows) args f → has (row (plain rows) t).ends f ≡ true) (end_left l.assumed t f) (implies (all_may_end (plain rows) args f) (has (row (plain rows) t).ends f)) (itself (end_left l.assumed t f))
      (only_if (AllMayEnd (plain rows) args f) (has (row (plain rows) t).ends f ≡ true) (all_may_end (plain rows) args f) (has (row (plain rows) t).ends f) (all_decided paths (plain rows) args f) (itself (has (row (plain rows) t).ends f))))
  ends_decided paths (WhenAny args) =
      let it = has (row (plain rows) t).ends RanToCompletion in
      means (end_left l.assumed t RanToCompletion ≡ true → (x : ℕ) × (mem x args ≡ true) × (may_end (plain rows) x ≡ true) → it ≡ true) (TokenEndsRule g l rows t (WhenAny args)) (token_ends_by g l rows t (WhenAny args))
      (only_if (end_left l.assumed t RanToCompletion ≡ true) ((x : ℕ) × (mem x args ≡ true) × (may_end (plain rows) x ≡ true) → it ≡ true) (end_left l.assumed t RanToCompletion) (implies (some_in (may_end (plain rows)) args) it) (itself (end_left l.assumed t RanToCompletion))
      (only_if ((x : ℕ) × (mem x args ≡ true) × (may_end (plain rows) x ≡ true)) (it ≡ true) (some_in (may_end (plain rows)) args) it
      (of_some (λ x. may_end (plain rows) x ≡ true) (may_end (plain rows)) args (λ x. itself (may_end (plain rows) x))) (itself it)))
      (λ f x cut m e. f cut (x, m, e))
      (λ f cut e. f e.0 cut e.1 e.2)
  ends_decided paths k = way_has

  -- what holds when it begins
  begins_decided : (k : TaskKind) (f : Fact) → Decides (begin_by g l rows t k f) (BeginRule g l rows t k f)
  begins_decided Root f = (λ e. true_false (sym e), λ z. absurd z)
  begins_decided (Continues a) f = itself (once_ended rows a f)
  begins_decided Child (IsSettled x) = at_parent g t (λ p. mem x (row (plain rows) p).before ≡ true) (λ p. mem x (row (plain rows) p).before) valid (λ p. itself (mem x (row (plain rows) p).before))
  begins_decided Child (IsRequested k) =
      means ((p : ℕ) → IsParent g p t → (known : Knowledge) → known_at_start g l rows p t ≡ Some known → known.requested k ≡ true) (BeginRule g l rows t Child (IsRequested k)) (begin_by g l rows t Child (IsRequested k))
      (at_parent g t (λ p. (known : Knowledge) → known_at_start g l rows p t ≡ Some known → known.requested k ≡ true) (λ p. if_known (known_at_start g l rows p t) (λ known. known.requested k)) valid
      (λ p. at_known (λ known. known.requested k ≡ true) (λ known. known.requested k) (known_at_start g l rows p t) (λ known. itself (known.requested k))))
      (λ f p known par e. f p par known e)
      (λ f p par known e. f p known par e)
  begins_decided (WhenAll args) f = (λ e. tt, λ u. refl)
  begins_decided (WhenAny args) f = (λ e. tt, λ u. refl)

  -- what holds when it has ended
  nothing : Decides false ⊥
  nothing = (λ e. true_false (sym e), λ z. absurd z)

  own_decided : (f : Fact) → Decides (own_requested g t f) (OwnRequested g t f)
  own_decided (IsSettled x) = nothing
  own_decided (IsRequested j) = itself (token_requested_by (task g t).token (λ k. linked g k j))

  settled_decided : (p : ℕ) (f : Fact) → Decides (settled_before rows p f) (SettledBefore rows p f)
  settled_decided p (IsSettled x) = itself (mem x (row (plain rows) p).before)
  settled_decided p (IsRequested k) = nothing

  there_decided : (known : Knowledge) (f : Fact) → Decides (known_there known f) (KnownThere known f)
  there_decided known (IsSettled x) = nothing
  there_decided known (IsRequested k) = itself (known.requested k)

  before_decided : (k : TaskKind) (f : Fact) → Decides (before_begin g rows t k f) (BeforeBegin g rows t k f)
  before_decided (Continues a) f = itself (once_ended rows a f)
  before_decided Child f = at_parent g t (λ p. SettledBefore rows p f) (λ p. settled_before rows p f) valid (λ p. settled_decided p f)
  before_decided k f = nothing

  holds_decided : (k : TaskKind) (f : Fact) (way : Way) → Decides (holds_by g rows t k f way) (HoldsBy g rows t k f way)
  holds_decided k f (ByBody e known) =
      either (begins_with rows t f ≡ true) (BeforeBegin g rows t k f ⊎ (known.later f ≡ true)) (begins_with rows t f) (before_begin g rows t k f || known.later f) (itself (begins_with rows t f))
      (either (BeforeBegin g rows t k f) (known.later f ≡ true) (before_begin g rows t k f) (known.later f) (before_decided k f) (itself (known.later f)))
  holds_decided k f RootDropped = own_decided f
  holds_decided k f (ChildDropped p known) =
      either (OwnRequested g t f) (SettledBefore rows p f ⊎ KnownThere known f) (own_requested g t f) (settled_before rows p f || known_there known f) (own_decided f)
      (either (SettledBefore rows p f) (KnownThere known f) (settled_before rows p f) (known_there known f) (settled_decided p f) (there_decided known f))
  holds_decided k f DroppedEarly = own_decided f
  holds_decided k f DroppedLate = either (OwnRequested g t f) (BeforeBegin g rows t k f) (own_requested g t f) (before_begin g rows t k f) (own_decided f) (before_decided k f)
  holds_decided k f NotAllowed = before_decided k f

  below_decided : (f : Fact) → Decides (settled_below g t f) (SettledBelow g t f)
  below_decided (IsSettled x) = below g t x valid
  below_decided (IsRequested k) = nothing

  way_holds : (k : TaskKind) (f : Fact) → Decides (settled_below g t f || each_way g l rows t (holds_by g rows t k f)) (SettledBelow g t f ⊎ ((way : Way) → IsWay g l rows t way → HoldsBy g rows t k f way))
  way_holds k f =
      either (SettledBelow g t f) ((way : Way) → IsWay g l rows t way → HoldsBy g rows t k f way) (settled_below g t f) (each_way g l rows t (holds_by g rows t k f)) (below_decided f)
      (ways_decided (HoldsBy g rows t k f) (holds_by g rows t k f) (holds_decided k f))

  end_decided : (k : TaskKind) (f : Fact) → Decides (end_by g l rows t k f) (EndRule g l rows t k f)
  end_decided (WhenAll args) f = of_some (λ y. once_ended rows y f ≡ true) (λ y. once_ended rows y f) args (λ y. itself (once_ended rows y f))
  end_decided (WhenAny args) f =
      of_all (λ y. may_end (plain rows) y ≡ true → once_ended rows y f ≡ true) (λ y. implies (may_end (plain rows) y) (once_ended rows y f)) args
      (λ y. only_if (may_end (plain rows) y ≡ true) (once_ended rows y f ≡ true) (may_end (plain rows) y) (once_ended rows y f) (itself (may_end (plain rows) y)) (itself (once_ended rows y f)))
  end_decided k f = way_holds k f

  -- a chain leads to its reader
  won_decided : (k : TaskKind) (y : ℕ) → Decides (is_won_by k y) (IsWonBy k y)
  won_decided (WhenAny args) y =
      both (mem y args ≡ true) ((x : ℕ) → mem x args ≡ true → x ≡ y) (mem y args) (all_in (λ x. nat_eq x y) args) (itself (mem y args)) (of_all (λ x. x ≡ y) (λ x. nat_eq x y) args (λ x. same x y))
  won_decided k y = nothing

  winner_decided : PathLaws → (r y : ℕ) (k : TaskKind) → Decides (reads_winner g l r y k) (ReadsWinner g l rows r y k)
  winner_decided paths r y (Continues n) =
      let Won = IsWonBy (kind_left g l n) y in
      let Allowed = allows (options g r) RanToCompletion ≡ true in
      let Quiet_ = is_loud g l.assumed r ≡ false in
      let w = faulted_view g l.assumed r in
      let observes = must_observe w (body g r) in
      means (Won × (Allowed × (Quiet_ × MustObserve w (body g r)))) (ReadsWinner g l rows r y (Continues n)) (reads_winner g l r y (Continues n))
      (both Won (Allowed × (Quiet_ × MustObserve w (body g r))) (is_won_by (kind_left g l n) y) (allows (options g r) RanToCompletion && (not (is_loud g l.assumed r) && observes)) (won_decided (kind_left g l n) y)
      (both Allowed (Quiet_ × MustObserve w (body g r)) (allows (options g r) RanToCompletion) (not (is_loud g l.assumed r) && observes) (itself (allows (options g r) RanToCompletion))
      (both Quiet_ (MustObserve w (body g r)) (not (is_loud g l.assumed r)) observes (opposite (is_loud g l.assumed r)) (observes_it paths w (body g r)))))
      (λ e. (e.0, e.1.0, e.1.1.0, e.1.1.1))
      (λ e. (e.0, (e.1, (e.2, e.3))))
  winner_decided paths r y k = nothing

  links_decided : PathLaws → (y : ℕ) (xs : List ℕ) → Decides (token_links g l y xs) (TokenLinks g l rows y xs)
  links_decided paths y [] = nothing
  links_decided paths y (x ∷ []) =
      either (Reads g l.assumed (plain rows) x y) (ReadsWinner g l rows x y (kind g x)) (reads g l.assumed x y) (reads_winner g l x y (kind g x)) (reads_decided paths g l.assumed (plain rows) x y) (winner_decided paths x y (kind g x))
  links_decided paths y (x ∷ z ∷ zs) =
      both (TakesOver g x y) (TokenLinks g l rows x (z ∷ zs)) (takes_over g x y) (token_links g l x (z ∷ zs)) (takes_decided paths g x y) (links_decided paths x (z ∷ zs))

  pub chain_decided : PathLaws → (xs : List ℕ) → Decides (token_chain g l t xs) (TokenChainRule g l rows t xs)
  chain_decided paths [] = (λ e. tt, λ u. refl)
  chain_decided paths (x ∷ xs) = links_decided paths t (x ∷ xs)

  -- what the row says of its begin and of its end
  pub begin_rule_decided : Decides (implies (may_run rows t) (each_begin rows t (begin_by g l rows t (kind g t)))) (may_run rows t ≡ true → (f : Fact) → begins_with rows t f ≡ true → BeginRule g l rows t (kind g t) f)
  begin_rule_decided =
      only_if (may_run rows t ≡ true) ((f : Fact) → begins_with rows t f ≡ true → BeginRule g l rows t (kind g t) f) (may_run rows t) (each_begin rows t (begin_by g l rows t (kind g t))) (itself (may_run rows t))
      (begin_decided rows t (BeginRule g l rows t (kind g t)) (begin_by g l rows t (kind g t)) (begins_decided (kind g t)))

  pub end_rule_decided : Decides (each_ending rows t (end_by g l rows t (kind_left g l t))) ((f : Fact) → ends_with rows t f ≡ true → EndRule g l rows t (kind_left g l t) f)
  end_rule_decided = ending_decided rows t (EndRule g l rows t (kind_left g l t)) (end_by g l rows t (kind_left g l t)) (end_decided (kind_left g l t))

  -- no rule is broken just where all are kept
  pub token_broken_lem : PathLaws → Clears (token_broken g l rows t) (IsClosedWithTokens g l rows t)
  token_broken_lem paths =
      let r = token_row_rules g l rows t in
      clear_means (r.runs × (r.ends × (r.before × (r.past × (r.chain × Unit {0}))))) (IsClosedWithTokens g l rows t) (token_broken g l rows t)
      (rules_clear r (token_runs_by g l rows t (kind g t)) (token_ends_by g l rows t (kind_left g l t)) (implies (may_run rows t) (each_begin rows t (begin_by g l rows t (kind g t)))) (each_ending rows t (end_by g l rows t (kind_left g l t))) (token_chain g l t (row (plain rows) t).chain)
      (runs_decided (kind g t)) (ends_decided paths (kind_left g l t)) begin_rule_decided end_rule_decided (chain_decided paths (row (plain rows) t).chain))
      (λ e. record { runs = e.0; ends = e.1.0; begin = e.1.1.0; end = e.1.1.1.0; chain = e.1.1.1.1.0 })
      (λ c. (c.runs, (c.ends, (c.begin, (c.end, (c.chain, tt))))))

some_decided : (o : Option Knowledge) → Decides (not (is_some o)) (o ≡ None)
some_decided None = (λ e. refl, λ e. refl)
some_decided (Some k) = (λ e. true_false (sym e), λ e. absurd (cc))

pub token_proves_lem : (paths : PathLaws) (g : TaskGraph) (l : LeafAssumed) (rows : List Row) (p : Property TaskId) → Decides (token_proves g l rows p) (ProvesWithTokens g l rows p)
token_proves_lem paths g l rows (Observed t) =
    let thrown = at_throw (reading g l rows t.0) (asked_of rows t.0) (body g t.0) in
    let faulted = has (row (plain rows) t.0).ends Faulted in
    either ((row (plain rows) t.0).chain ≡ [] → ⊥) ((faulted ≡ false) ⊎ (may_run rows t.0 ≡ false) ⊎ (thrown ≡ None) ⊎ NoneComplete g (plain rows))
    (not (is_none (row (plain rows) t.0).chain)) (not faulted || (not (may_run rows t.0) || (not (is_some thrown) || none_complete g (plain rows))))
    (denied ((row (plain rows) t.0).chain ≡ []) (is_none (row (plain rows) t.0).chain) (none_decided paths (row (plain rows) t.0).chain))
    (either (faulted ≡ false) ((may_run rows t.0 ≡ false) ⊎ (thrown ≡ None) ⊎ NoneComplete g (plain rows)) (not faulted) (not (may_run rows t.0) || (not (is_some thrown) || none_complete g (plain rows))) (opposite faulted)
    (either (may_run rows t.0 ≡ false) ((thrown ≡ None) ⊎ NoneComplete g (plain rows)) (not (may_run rows t.0)) (not (is_some thrown) || none_complete g (plain rows)) (opposite (may_run rows t.0))
    (either (thrown ≡ None) (NoneComplete g (plain rows)) (not (is_some thrown)) (none_complete g (plain rows)) (some_decided thrown) (none_complete_decided paths g (plain rows)))))
token_proves_lem paths g l rows p = proves_lem paths g l.assumed (plain rows) p
