-- The rules for a row are decided by their tests.
use Rattle.std.proofs.Common.{◌≡◌, ℕ, ◌⊎◌, ◌&&◌, ◌||◌, not, Bool, true, false, Some, List, [], ◌∷◌, refl, sym, subst, nat_eq, length}
use Rattle.std.specs.Prelude.{Decides}
use Rattle.tpl_laws.proofs.Deciding.{itself, opposite, same, same_end, both, either, only_if, means, at_each_end, at_some_end, of_all, of_some, below_some}
use Rattle.tpl_model.proofs.Truths.{true_false}
use Rattle.tpl_model.proofs.PathEnds.{is_acknowledged, is_returned, thrown_label}
use Rattle.tpl_model.proofs.Through.{no_clean}
use Rattle.tpl_model.specs.declared.finals.Final.{Final}
use Rattle.tpl_model.specs.declared.finals.Final.TheVariants.{RanToCompletion, Canceled, Faulted}
use Rattle.tpl_model.specs.Finals.{has, is_final}
use Rattle.tpl_model.specs.Options.{allows, lazy_cancellation}
use Rattle.tpl_model.specs.declared.outcome.Outcome.TheVariants.{Returned, Threw, Acknowledged}
use Rattle.tpl_model.specs.Members.{mem}
use Rattle.tpl_model.specs.Statements.{Statements}
use Rattle.tpl_model.specs.Graph.{TaskGraph, TaskKind, Root, Child, Continues, WhenAll, WhenAny, kind, body, options, is_task, attached, some_in, IsParent}
use Rattle.tpl_model.specs.Rules.{to_end}
use Rattle.tpl_model.specs.Valid.{IsGraph}
use Rattle.tpl_model.specs.Paths.{Known, Path, MayEnd, MayThrow, MayStartChild, MustObserve}
use Rattle.tpl_model.specs.Certificate.{PlainRow, row, Assumed, end_left, is_loud, view, IsBelow, RunsRule, BodyMayEnd, MayBeCanceled, AllMayEnd, MayEndAs, BeforeRule, may_end_early, may_end, PastRule, TakesOver, Reads, Links, ChainRule, NoneComplete}
use Rattle.tpl_model.specs.Recursion.{may, none, is_throw, must_observe, reaches}
use Rattle.tpl_laws.specs.RowTests.{implies, all_in, some_end, parent_of, by_parent, is_below, runs_by, runs, is_return, is_acknowledgement, may_throw, body_may_end, may_be_canceled, all_may_end, may_end_as, ends, before_by, before, past_by, past, is_argument, takes_over, continues, faulted_view, reads, links, chain_by, chain, is_none, none_complete}
use Rattle.tpl_laws.proofs.Parents.{at_parent, below}
use Rattle.tpl_laws.specs.PathLaws.{PathLaws}

-- from what the recursion over a body finds
module _ (paths : PathLaws) where
  returns_it : (w : Known) (script : Statements) → Decides (may none is_return w script) (MayEnd w script Returned)
  returns_it w script = (
    λ e. let r = (paths.may none is_return w script).0 e in (r.0, subst (λ z. Path w script r.0 (Some z)) (is_returned r.1 r.3) r.2),
    λ m. (paths.may none is_return w script).1 (m.0, Returned, m.1, refl, no_clean m.0),
  )

  acknowledges_it : (w : Known) (script : Statements) → Decides (may none is_acknowledgement w script) (MayEnd w script Acknowledged)
  acknowledges_it w script = (
    λ e. let r = (paths.may none is_acknowledgement w script).0 e in (r.0, subst (λ z. Path w script r.0 (Some z)) (is_acknowledged r.1 r.3) r.2),
    λ m. (paths.may none is_acknowledgement w script).1 (m.0, Acknowledged, m.1, refl, no_clean m.0),
  )

  pub throws_it : (w : Known) (script : Statements) → Decides (may none is_throw w script) (MayThrow w script)
  throws_it w script = (
    λ e.
        let r = (paths.may none is_throw w script).0 e in
        let l = thrown_label r.1 r.3 in
        (l.0, (r.0, subst (λ z. Path w script r.0 (Some z)) l.1 r.2)),
    λ m. (paths.may none is_throw w script).1 (m.1.0, Threw m.0, m.1.1, refl, no_clean m.1.0),
  )

  starts_it : (c : ℕ) (w : Known) (script : Statements) → Decides (reaches c w script) (MayStartChild w script c)
  starts_it c w script = ((paths.may_start c w script).0, (paths.may_start c w script).1)

  pub observes_it : (w : Known) (script : Statements) → Decides (must_observe w script) (MustObserve w script)
  observes_it w script = ((paths.must_observe w script).0, (paths.must_observe w script).1)

  -- it runs
  nothing_asked : Decides true (Unit {0})
  nothing_asked = (λ e. tt, λ u. refl)

  runs_decided : (g : TaskGraph) (l : Assumed) (rows : List PlainRow) (t : ℕ) → IsGraph g → (k : TaskKind) → Decides (runs_by g l rows t k) (RunsRule g l rows t k)
  runs_decided g l rows t valid Root = itself (row rows t).runs
  runs_decided g l rows t valid (Continues a) =
      at_each_end (λ f. has (row rows a).ends f ≡ true → allows (options g t) f ≡ true → (row rows t).runs ≡ true)
      (λ f. implies (has (row rows a).ends f) (implies (allows (options g t) f) (row rows t).runs))
      (λ f.
      only_if (has (row rows a).ends f ≡ true) (allows (options g t) f ≡ true → (row rows t).runs ≡ true) (has (row rows a).ends f) (implies (allows (options g t) f) (row rows t).runs) (itself (has (row rows a).ends f))
      (only_if (allows (options g t) f ≡ true) ((row rows t).runs ≡ true) (allows (options g t) f) (row rows t).runs (itself (allows (options g t) f)) (itself (row rows t).runs)))
  runs_decided g l rows t valid Child =
      at_parent g t (λ p. (row rows p).runs ≡ true → MayStartChild (view g l rows p) (body g p) t → (row rows t).runs ≡ true)
      (λ p. implies (row rows p).runs (implies (reaches t (view g l rows p) (body g p)) (row rows t).runs)) valid
      (λ p.
      only_if ((row rows p).runs ≡ true) (MayStartChild (view g l rows p) (body g p) t → (row rows t).runs ≡ true) (row rows p).runs (implies (reaches t (view g l rows p) (body g p)) (row rows t).runs) (itself (row rows p).runs)
      (only_if (MayStartChild (view g l rows p) (body g p) t) ((row rows t).runs ≡ true) (reaches t (view g l rows p) (body g p)) (row rows t).runs (starts_it t (view g l rows p) (body g p)) (itself (row rows t).runs)))
  runs_decided g l rows t valid (WhenAll args) = nothing_asked
  runs_decided g l rows t valid (WhenAny args) = nothing_asked

  pub runs_lem : (g : TaskGraph) (l : Assumed) (rows : List PlainRow) (t : ℕ) → IsGraph g → Decides (runs g l rows t) (RunsRule g l rows t (kind g t))
  runs_lem g l rows t valid = runs_decided g l rows t valid (kind g t)

  -- its ends
  child_faults : (g : TaskGraph) (l : Assumed) (rows : List PlainRow) (t : ℕ) → Decides (some_in (λ c. reaches c (view g l rows t) (body g t) && has (row rows c).ends Faulted) (attached g t)) ((c : ℕ) × (mem c (attached g t) ≡ true) × MayStartChild (view g l rows t) (body g t) c × (has (row rows c).ends Faulted ≡ true))
  child_faults g l rows t =
      means ((c : ℕ) × (mem c (attached g t) ≡ true) × (MayStartChild (view g l rows t) (body g t) c × (has (row rows c).ends Faulted ≡ true)))
      ((c : ℕ) × (mem c (attached g t) ≡ true) × MayStartChild (view g l rows t) (body g t) c × (has (row rows c).ends Faulted ≡ true))
      (some_in (λ c. reaches c (view g l rows t) (body g t) && has (row rows c).ends Faulted) (attached g t))
      (of_some (λ c. MayStartChild (view g l rows t) (body g t) c × (has (row rows c).ends Faulted ≡ true)) (λ c. reaches c (view g l rows t) (body g t) && has (row rows c).ends Faulted) (attached g t)
      (λ c. both (MayStartChild (view g l rows t) (body g t) c) (has (row rows c).ends Faulted ≡ true) (reaches c (view g l rows t) (body g t)) (has (row rows c).ends Faulted) (starts_it c (view g l rows t) (body g t)) (itself (has (row rows c).ends Faulted))))
      (λ e. (e.0, e.1, e.2.0, e.2.1))
      (λ e. (e.0, e.1, (e.2, e.3)))

  body_decided : (g : TaskGraph) (l : Assumed) (rows : List PlainRow) (t : ℕ) (f : Final) → Decides (body_may_end g l rows t f) (BodyMayEnd g l rows t f)
  body_decided g l rows t RanToCompletion = returns_it (view g l rows t) (body g t)
  body_decided g l rows t Canceled = acknowledges_it (view g l rows t) (body g t)
  body_decided g l rows t Faulted =
      either (MayThrow (view g l rows t) (body g t)) ((c : ℕ) × (mem c (attached g t) ≡ true) × MayStartChild (view g l rows t) (body g t) c × (has (row rows c).ends Faulted ≡ true))
      (may_throw g l rows t) (some_in (λ c. reaches c (view g l rows t) (body g t) && has (row rows c).ends Faulted) (attached g t))
      (throws_it (view g l rows t) (body g t)) (child_faults g l rows t)

  -- some end that passes both tests
  some_end_both : (P Q : Final → Type 0) (p q : Final → Bool) → ((f : Final) → Decides (p f) (P f)) → ((f : Final) → Decides (q f) (Q f)) → Decides (some_end (λ f. p f && q f)) ((f : Final) × P f × Q f)
  some_end_both P Q p q dp dq =
      means ((f : Final) × (P f × Q f)) ((f : Final) × P f × Q f) (some_end (λ f. p f && q f))
      (at_some_end (λ f. P f × Q f) (λ f. p f && q f) (λ f. both (P f) (Q f) (p f) (q f) (dp f) (dq f)))
      (λ e. (e.0, e.1.0, e.1.1))
      (λ e. (e.0, (e.1, e.2)))

  some_end_of : (rows : List PlainRow) (x : ℕ) → Decides (some_end (has (row rows x).ends)) ((f : Final) × (has (row rows x).ends f ≡ true))
  some_end_of rows x = at_some_end (λ f. has (row rows x).ends f ≡ true) (has (row rows x).ends) (λ f. itself (has (row rows x).ends f))

  canceled_decided : (g : TaskGraph) (l : Assumed) (rows : List PlainRow) (t a : ℕ) → Decides (may_be_canceled g l rows t a) (MayBeCanceled g l rows t a)
  canceled_decided g l rows t a =
      either ((is_loud g l t ≡ true) × (lazy_cancellation (options g t) ≡ false))
      (((is_loud g l t ≡ true) × ((f : Final) × (has (row rows a).ends f ≡ true))) ⊎ ((f : Final) × (has (row rows a).ends f ≡ true) × (allows (options g t) f ≡ false)))
      (is_loud g l t && not (lazy_cancellation (options g t)))
      ((is_loud g l t && some_end (has (row rows a).ends)) || some_end (λ f. has (row rows a).ends f && not (allows (options g t) f)))
      (both (is_loud g l t ≡ true) (lazy_cancellation (options g t) ≡ false) (is_loud g l t) (not (lazy_cancellation (options g t))) (itself (is_loud g l t)) (opposite (lazy_cancellation (options g t))))
      (either ((is_loud g l t ≡ true) × ((f : Final) × (has (row rows a).ends f ≡ true))) ((f : Final) × (has (row rows a).ends f ≡ true) × (allows (options g t) f ≡ false))
      (is_loud g l t && some_end (has (row rows a).ends)) (some_end (λ f. has (row rows a).ends f && not (allows (options g t) f)))
      (both (is_loud g l t ≡ true) ((f : Final) × (has (row rows a).ends f ≡ true)) (is_loud g l t) (some_end (has (row rows a).ends)) (itself (is_loud g l t)) (some_end_of rows a))
      (some_end_both (λ f. has (row rows a).ends f ≡ true) (λ f. allows (options g t) f ≡ false) (has (row rows a).ends) (λ f. not (allows (options g t) f)) (λ f. itself (has (row rows a).ends f)) (λ f. opposite (allows (options g t) f))))

  pub all_decided : (rows : List PlainRow) (args : List ℕ) (f : Final) → Decides (all_may_end rows args f) (AllMayEnd rows args f)
  all_decided rows args RanToCompletion = of_all (λ x. has (row rows x).ends RanToCompletion ≡ true) (λ x. has (row rows x).ends RanToCompletion) args (λ x. itself (has (row rows x).ends RanToCompletion))
  all_decided rows args Canceled =
      both ((x : ℕ) → mem x args ≡ true → ((f : Final) × (is_final f Faulted ≡ false) × (has (row rows x).ends f ≡ true))) ((x : ℕ) × (mem x args ≡ true) × (has (row rows x).ends Canceled ≡ true))
      (all_in (λ x. some_end (λ f. not (is_final f Faulted) && has (row rows x).ends f)) args) (some_in (λ x. has (row rows x).ends Canceled) args)
      (of_all (λ x. (f : Final) × (is_final f Faulted ≡ false) × (has (row rows x).ends f ≡ true)) (λ x. some_end (λ f. not (is_final f Faulted) && has (row rows x).ends f)) args
      (λ x. some_end_both (λ f. is_final f Faulted ≡ false) (λ f. has (row rows x).ends f ≡ true) (λ f. not (is_final f Faulted)) (has (row rows x).ends) (λ f. opposite (is_final f Faulted)) (λ f. itself (has (row rows x).ends f))))
      (of_some (λ x. has (row rows x).ends Canceled ≡ true) (λ x. has (row rows x).ends Canceled) args (λ x. itself (has (row rows x).ends Canceled)))
  all_decided rows args Faulted =
      both ((x : ℕ) → mem x args ≡ true → ((f : Final) × (has (row rows x).ends f ≡ true))) ((x : ℕ) × (mem x args ≡ true) × (has (row rows x).ends Faulted ≡ true))
      (all_in (λ x. some_end (has (row rows x).ends)) args) (some_in (λ x. has (row rows x).ends Faulted) args)
      (of_all (λ x. (f : Final) × (has (row rows x).ends f ≡ true)) (λ x. some_end (has (row rows x).ends)) args (λ x. some_end_of rows x))
      (of_some (λ x. has (row rows x).ends Faulted ≡ true) (λ x. has (row rows x).ends Faulted) args (λ x. itself (has (row rows x).ends Faulted)))

  own_decided : (g : TaskGraph) (l : Assumed) (rows : List PlainRow) (t : ℕ) (f : Final) → Decides ((row rows t).runs && (body_may_end g l rows t f || (is_final f Canceled && is_loud g l t))) (((row rows t).runs ≡ true) × (BodyMayEnd g l rows t f ⊎ ((f ≡ Canceled) × (is_loud g l t ≡ true))))
  own_decided g l rows t f =
      both ((row rows t).runs ≡ true) (BodyMayEnd g l rows t f ⊎ ((f ≡ Canceled) × (is_loud g l t ≡ true))) (row rows t).runs (body_may_end g l rows t f || (is_final f Canceled && is_loud g l t)) (itself (row rows t).runs)
      (either (BodyMayEnd g l rows t f) ((f ≡ Canceled) × (is_loud g l t ≡ true)) (body_may_end g l rows t f) (is_final f Canceled && is_loud g l t) (body_decided g l rows t f)
      (both (f ≡ Canceled) (is_loud g l t ≡ true) (is_final f Canceled) (is_loud g l t) (same_end f Canceled) (itself (is_loud g l t))))

  some_argument : (rows : List PlainRow) (args : List ℕ) → Decides (some_in (λ x. some_end (has (row rows x).ends)) args) ((x : ℕ) × (e : Final) × (mem x args ≡ true) × (has (row rows x).ends e ≡ true))
  some_argument rows args =
      means ((x : ℕ) × (mem x args ≡ true) × ((e : Final) × (has (row rows x).ends e ≡ true))) ((x : ℕ) × (e : Final) × (mem x args ≡ true) × (has (row rows x).ends e ≡ true))
      (some_in (λ x. some_end (has (row rows x).ends)) args)
      (of_some (λ x. (e : Final) × (has (row rows x).ends e ≡ true)) (λ x. some_end (has (row rows x).ends)) args (λ x. some_end_of rows x))
      (λ e. (e.0, e.2.0, e.1, e.2.1))
      (λ e. (e.0, e.2, (e.1, e.3)))

  end_decided : (g : TaskGraph) (l : Assumed) (rows : List PlainRow) (t : ℕ) (k : TaskKind) (f : Final) → Decides (may_end_as g l rows t k f) (MayEndAs g l rows t k f)
  end_decided g l rows t Root f = own_decided g l rows t f
  end_decided g l rows t Child f = own_decided g l rows t f
  end_decided g l rows t (Continues a) f =
      either (((row rows t).runs ≡ true) × BodyMayEnd g l rows t f) ((f ≡ Canceled) × MayBeCanceled g l rows t a) ((row rows t).runs && body_may_end g l rows t f) (is_final f Canceled && may_be_canceled g l rows t a)
      (both ((row rows t).runs ≡ true) (BodyMayEnd g l rows t f) (row rows t).runs (body_may_end g l rows t f) (itself (row rows t).runs) (body_decided g l rows t f))
      (both (f ≡ Canceled) (MayBeCanceled g l rows t a) (is_final f Canceled) (may_be_canceled g l rows t a) (same_end f Canceled) (canceled_decided g l rows t a))
  end_decided g l rows t (WhenAll args) f = all_decided rows args f
  end_decided g l rows t (WhenAny args) f =
      both (f ≡ RanToCompletion) ((x : ℕ) × (e : Final) × (mem x args ≡ true) × (has (row rows x).ends e ≡ true)) (is_final f RanToCompletion) (some_in (λ x. some_end (has (row rows x).ends)) args) (same_end f RanToCompletion) (some_argument rows args)

  pub ends_lem : (g : TaskGraph) (l : Assumed) (rows : List PlainRow) (t : ℕ) → Decides (ends g l rows t) ((f : Final) → end_left l t f ≡ true → MayEndAs g l rows t (kind g t) f → has (row rows t).ends f ≡ true)
  ends_lem g l rows t =
      at_each_end (λ f. end_left l t f ≡ true → MayEndAs g l rows t (kind g t) f → has (row rows t).ends f ≡ true)
      (λ f. implies (end_left l t f) (implies (may_end_as g l rows t (kind g t) f) (has (row rows t).ends f)))
      (λ f.
      only_if (end_left l t f ≡ true) (MayEndAs g l rows t (kind g t) f → has (row rows t).ends f ≡ true) (end_left l t f) (implies (may_end_as g l rows t (kind g t) f) (has (row rows t).ends f)) (itself (end_left l t f))
      (only_if (MayEndAs g l rows t (kind g t) f) (has (row rows t).ends f ≡ true) (may_end_as g l rows t (kind g t) f) (has (row rows t).ends f) (end_decided g l rows t (kind g t) f) (itself (has (row rows t).ends f))))

  -- what is before it
  nothing_there : Decides false ⊥
  nothing_there = (λ e. true_false (sym e), λ z. absurd z)

  or_past : (rows : List PlainRow) (x y : ℕ) → Decides (nat_eq x y || mem x (row rows y).past) ((x ≡ y) ⊎ (mem x (row rows y).past ≡ true))
  or_past rows x y = either (x ≡ y) (mem x (row rows y).past ≡ true) (nat_eq x y) (mem x (row rows y).past) (same x y) (itself (mem x (row rows y).past))

  before_decided : (g : TaskGraph) (rows : List PlainRow) (t : ℕ) → IsGraph g → (k : TaskKind) (x : ℕ) → Decides (before_by g rows t k x) (BeforeRule g rows t k x)
  before_decided g rows t valid Root x = nothing_there
  before_decided g rows t valid (Continues a) x = or_past rows x a
  before_decided g rows t valid Child x = at_parent g t (λ p. mem x (row rows p).before ≡ true) (λ p. mem x (row rows p).before) valid (λ p. itself (mem x (row rows p).before))
  before_decided g rows t valid (WhenAll args) x = nothing_asked
  before_decided g rows t valid (WhenAny args) x = nothing_asked

  pub before_lem : (g : TaskGraph) (rows : List PlainRow) (t : ℕ) → IsGraph g → Decides (before g rows t) ((row rows t).runs ≡ true → (x : ℕ) → mem x (row rows t).before ≡ true → BeforeRule g rows t (kind g t) x)
  before_lem g rows t valid =
      only_if ((row rows t).runs ≡ true) ((x : ℕ) → mem x (row rows t).before ≡ true → BeforeRule g rows t (kind g t) x) (row rows t).runs (all_in (before_by g rows t (kind g t)) (row rows t).before) (itself (row rows t).runs)
      (of_all (BeforeRule g rows t (kind g t)) (before_by g rows t (kind g t)) (row rows t).before (λ x. before_decided g rows t valid (kind g t) x))

  -- what is past it
  past_decided : (g : TaskGraph) (l : Assumed) (rows : List PlainRow) (t : ℕ) → IsGraph g → (k : TaskKind) (x : ℕ) → Decides (past_by g l rows t k x) (PastRule g l rows t k x)
  past_decided g l rows t valid Root x = below g t x valid
  past_decided g l rows t valid Child x =
      either ((p : ℕ) → IsParent g p t → mem x (row rows p).before ≡ true) (IsBelow g t x) (by_parent (parent_of g t) (λ p. mem x (row rows p).before)) (is_below g t x)
      (at_parent g t (λ p. mem x (row rows p).before ≡ true) (λ p. mem x (row rows p).before) valid (λ p. itself (mem x (row rows p).before))) (below g t x valid)
  past_decided g l rows t valid (Continues a) x =
      either ((may_end_early g l rows t ≡ false) × ((x ≡ a) ⊎ (mem x (row rows a).past ≡ true))) (IsBelow g t x) (not (may_end_early g l rows t) && (nat_eq x a || mem x (row rows a).past)) (is_below g t x)
      (both (may_end_early g l rows t ≡ false) ((x ≡ a) ⊎ (mem x (row rows a).past ≡ true)) (not (may_end_early g l rows t)) (nat_eq x a || mem x (row rows a).past) (opposite (may_end_early g l rows t)) (or_past rows x a)) (below g t x valid)
  past_decided g l rows t valid (WhenAll args) x = of_some (λ y. (x ≡ y) ⊎ (mem x (row rows y).past ≡ true)) (λ y. nat_eq x y || mem x (row rows y).past) args (λ y. or_past rows x y)
  past_decided g l rows t valid (WhenAny args) x =
      of_all (λ y. (x ≡ y) ⊎ (mem x (row rows y).past ≡ true)) (λ y. nat_eq x y || mem x (row rows y).past) args (λ y. or_past rows x y)

  pub past_lem : (g : TaskGraph) (l : Assumed) (rows : List PlainRow) (t : ℕ) → IsGraph g → Decides (past g l rows t) ((x : ℕ) → mem x (row rows t).past ≡ true → PastRule g l rows t (kind g t) x)
  past_lem g l rows t valid = of_all (PastRule g l rows t (kind g t)) (past_by g l rows t (kind g t)) (row rows t).past (λ x. past_decided g l rows t valid (kind g t) x)

  -- who reads its exception
  argument_decided : (y : ℕ) (k : TaskKind) → Decides (is_argument y k) ((args : List ℕ) × (k ≡ WhenAll args) × (mem y args ≡ true))
  argument_decided y (WhenAll args) = (λ e. (args, refl, e), λ e. subst (λ z. is_argument y z ≡ true) (sym e.1) e.2)
  argument_decided y k = (λ e. true_false (sym e), λ e. absurd (let q = e.1 in (cc)))

  pub takes_decided : (g : TaskGraph) (x y : ℕ) → Decides (takes_over g x y) (TakesOver g x y)
  takes_decided g x y =
      either (mem y (attached g x) ≡ true) ((args : List ℕ) × (kind g x ≡ WhenAll args) × (mem y args ≡ true)) (mem y (attached g x)) (is_argument y (kind g x)) (itself (mem y (attached g x))) (argument_decided y (kind g x))

  continues_decided : (y : ℕ) (k : TaskKind) → Decides (continues y k) (k ≡ Continues y)
  continues_decided y (Continues a) =
      means (a ≡ y) (Continues a ≡ Continues y) (nat_eq a y) (same a y) (λ e. subst (λ z. Continues a ≡ Continues z) e refl) (λ e. cc)
  continues_decided y k = (λ e. true_false (sym e), λ e. absurd (cc))

  pub reads_decided : (g : TaskGraph) (l : Assumed) (rows : List PlainRow) (r y : ℕ) → Decides (reads g l r y) (Reads g l rows r y)
  reads_decided g l rows r y =
      means ((kind g r ≡ Continues y) × ((allows (options g r) Faulted ≡ true) × ((is_loud g l r ≡ false) × MustObserve (faulted_view g l r) (body g r)))) (Reads g l rows r y) (reads g l r y)
      (both (kind g r ≡ Continues y) ((allows (options g r) Faulted ≡ true) × ((is_loud g l r ≡ false) × MustObserve (faulted_view g l r) (body g r))) (continues y (kind g r)) (allows (options g r) Faulted && (not (is_loud g l r) && must_observe (faulted_view g l r) (body g r))) (continues_decided y (kind g r))
      (both (allows (options g r) Faulted ≡ true) ((is_loud g l r ≡ false) × MustObserve (faulted_view g l r) (body g r)) (allows (options g r) Faulted) (not (is_loud g l r) && must_observe (faulted_view g l r) (body g r)) (itself (allows (options g r) Faulted))
      (both (is_loud g l r ≡ false) (MustObserve (faulted_view g l r) (body g r)) (not (is_loud g l r)) (must_observe (faulted_view g l r) (body g r)) (opposite (is_loud g l r)) (observes_it (faulted_view g l r) (body g r)))))
      (λ e. record { after = e.0; on_faulted = e.1.0; not_loud = e.1.1.0; observes = e.1.1.1 })
      (λ e. (e.after, (e.on_faulted, (e.not_loud, e.observes))))

  links_decided : (g : TaskGraph) (l : Assumed) (rows : List PlainRow) (y : ℕ) (xs : List ℕ) → Decides (links g l y xs) (Links g l rows y xs)
  links_decided g l rows y [] = nothing_there
  links_decided g l rows y (x ∷ []) = reads_decided g l rows x y
  links_decided g l rows y (x ∷ z ∷ zs) = both (TakesOver g x y) (Links g l rows x (z ∷ zs)) (takes_over g x y) (links g l x (z ∷ zs)) (takes_decided g x y) (links_decided g l rows x (z ∷ zs))

  chain_decided : (g : TaskGraph) (l : Assumed) (rows : List PlainRow) (t : ℕ) (xs : List ℕ) → Decides (chain_by g l t xs) (ChainRule g l rows t xs)
  chain_decided g l rows t [] = nothing_asked
  chain_decided g l rows t (x ∷ xs) = links_decided g l rows t (x ∷ xs)

  pub chain_lem : (g : TaskGraph) (l : Assumed) (rows : List PlainRow) (t : ℕ) → Decides (chain g l rows t) (ChainRule g l rows t (row rows t).chain)
  chain_lem g l rows t = chain_decided g l rows t (row rows t).chain

  -- what proves a claim, besides
  pub none_decided : (xs : List ℕ) → Decides (is_none xs) (xs ≡ [])
  none_decided [] = (λ e. refl, λ e. refl)
  none_decided (x ∷ xs) = (λ e. true_false (sym e), λ e. absurd (cc))

  pub none_complete_decided : (g : TaskGraph) (rows : List PlainRow) → Decides (none_complete g rows) (NoneComplete g rows)
  none_complete_decided g rows =
      means ((x : ℕ) × is_task g x × ((to_end (kind g x) false ≡ true) × (may_end rows x ≡ false))) (NoneComplete g rows) (none_complete g rows)
      (below_some (λ x. (to_end (kind g x) false ≡ true) × (may_end rows x ≡ false)) (λ x. to_end (kind g x) false && not (may_end rows x)) (length g.tasks)
      (λ x. both (to_end (kind g x) false ≡ true) (may_end rows x ≡ false) (to_end (kind g x) false) (not (may_end rows x)) (itself (to_end (kind g x) false)) (opposite (may_end rows x))))
      (λ e. (e.0, e.1, e.2.0, e.2.1))
      (λ e. (e.0, e.1, (e.2, e.3)))
