-- Rows that are closed without tokens are closed with them.
use Rattle.tpl_model.specs.declared.rule_set.RuleSet.TheVariants.{WithoutTokens, WithTokens}
use Rattle.std.proofs.Common.{◌≡◌, ℕ, zero, suc, ◌&&◌, ◌||◌, ◌⊎◌, inl, inr, not, Bool, true, false, if◌then◌else◌, Some, None, List, [], ◌∷◌, filter, length, refl, sym, ap, ◌∙◌, subst, nat_eq}
use Rattle.std.proofs.lemmas.Bool.{and_from, or_cases, or_left, or_right, not_from_false}
use Rattle.tpl_model.proofs.MemberLemmas.{same_self}
use Rattle.tpl_model.proofs.Truths.{true_false}
use Rattle.tpl_model.specs.declared.finals.Final.{Final}
use Rattle.tpl_model.specs.declared.finals.Final.TheVariants.{RanToCompletion, Canceled, Faulted}
use Rattle.tpl_model.specs.Finals.{has}
use Rattle.tpl_model.specs.Members.{mem}
use Rattle.tpl_model.specs.Options.{lazy_cancellation}
use Rattle.tpl_model.specs.Paths.{MayStartChild}
use Rattle.tpl_model.specs.Knowledge.{Fact, IsSettled, IsRequested, Knowledge, at_throw}
use Rattle.tpl_model.proofs.KnownReach.{MayFault, may_start, may_return, may_acknowledge, may_throw, may_fault}
use Rattle.tpl_model.specs.Graph.{TaskGraph, TaskKind, Root, Child, Continues, WhenAll, WhenAny, kind, body, options, is_task, attached, IsParent}
use Rattle.tpl_model.specs.declared.ids.TaskId.{TaskId}
use Rattle.tpl_model.specs.declared.claim.Property.{Property}
use Rattle.tpl_model.specs.declared.claim.Property.TheVariants.{Observed}
use Rattle.tpl_model.specs.Certificate.{PlainRow, row, Tree, OnInput, OnEnd, OnWinner, RowsLeaf, LeastLeaf, ArePlain, end_left, is_loud, one_ends, subject_ends, subject_set, view, RunsRule, BodyMayEnd, MayEndAs, BeforeRule, may_end_early, may_end, PastRule, Links, ChainRule, Closed, Proves, IdsOfRows, AcceptsTree, assumed_for, Row, plain}
use Rattle.tpl_model.specs.TokenRules.{whole_row, begins_with, ends_with, once_ended, LeafAssumed, with_winners, kind_left, subject_left, token_view, reading, asked_of, known_at_end, known_at_start, may_run, TokenRunsRule, Way, ByBody, RootDropped, ChildDropped, DroppedEarly, DroppedLate, NotAllowed, way_final, MayEndBy, IsWay, HoldsBy, TokenEndsRule, BeginRule, EndRule, TokenLinks, TokenChainRule, ClosedWithTokens, ProvesWithTokens, AllTokens, TokensOfRows, narrowed, input_split, end_split, assumed_with_tokens}
use Rattle.tpl_laws.specs.TokenTrees.{AcceptsTokenTree}
use Rattle.tpl_laws.specs.TokenLaws.{AssumesMore}
use Rattle.tpl_laws.proofs.TokenLaws.{KnowsMore, may_end_more, may_throw_more, may_start_more, more_is_assumed_lem, tree_more, token_more}
use Rattle.tpl_laws.proofs.Destinies.{narrowed_less}
use Rattle.tpl_laws.specs.SoundnessWithTokens.{TokensAreMore, TokensAcceptMore}
use Rattle.tpl_laws.proofs.Basics.{is_some_of}
use Rattle.tpl_laws.proofs.Settling.{mem_filter}
use Rattle.tpl_laws.proofs.Chains.{none_of}

-- the rows say nothing of tokens
no_tokens : (rows : List Row) (t : ℕ) → ArePlain rows → ((whole_row rows t).asked ≡ []) × ((whole_row rows t).asks ≡ [])
no_tokens [] t none = (refl, refl)
no_tokens (r ∷ rows) zero none = (none.0, none.1)
no_tokens (r ∷ rows) (suc t) none = no_tokens rows t none.2

no_ids : (g : TaskGraph) (rows : List Row) → ArePlain rows → TokensOfRows g rows
no_ids g [] none = tt
no_ids g (r ∷ rows) none = (subst (AllTokens g) (sym none.0) tt, subst (AllTokens g) (sym none.1) tt, no_ids g rows none.2)

-- a task that may end has an end
some_end : (rows : List PlainRow) (t : ℕ) → may_end rows t ≡ true → (f : Final) × (has (row rows t).ends f ≡ true)
some_end rows t e =
    elim (or_cases (has (row rows t).ends RanToCompletion) (has (row rows t).ends Canceled || has (row rows t).ends Faulted) e) [
      | inl q ↦ (RanToCompletion, q)
      | inr d ↦ elim (or_cases (has (row rows t).ends Canceled) (has (row rows t).ends Faulted) d) [ inl q ↦ (Canceled, q) | inr q ↦ (Faulted, q) ]
    ]

-- where fewer arguments may win, the subject of a continuation may have ended in fewer ways
one_ends_less : (rows : List PlainRow) (may_win : ℕ → Bool) (args : List ℕ) (f : Final) → one_ends (filter may_win args) rows f ≡ true → one_ends args rows f ≡ true
one_ends_less rows may_win [] f e = e
one_ends_less rows may_win (x ∷ args) f e = pick (λ q. one_ends_less rows may_win args f q) (may_win x) e
  where
    pick : (one_ends (filter may_win args) rows f ≡ true → one_ends args rows f ≡ true) → (b : Bool) → one_ends (if b then x ∷ filter may_win args else filter may_win args) rows f ≡ true → one_ends (x ∷ args) rows f ≡ true
    pick others true e =
        elim (or_cases (has (row rows x).ends f) (one_ends (filter may_win args) rows f) e) [
          | inl q ↦ or_left (has (row rows x).ends f) (one_ends args rows f) q
          | inr q ↦ or_right (has (row rows x).ends f) (one_ends args rows f) (others q)
        ]
    pick others false e = or_right (has (row rows x).ends f) (one_ends args rows f) (others e)

view_more : (g : TaskGraph) (l : LeafAssumed) (rows : List Row) (t : ℕ) → KnowsMore (view g l.assumed (plain rows) t) (token_view g l rows t)
view_more g l rows t = record {
  own = refl;
  possible = λ i value e. e;
  loud = λ k e. e;
  subject = by_kind (kind g t);
  unsure = λ site e. e;
}
  where
    of_kind : (a : ℕ) (k : TaskKind) (f : Final) → subject_ends (with_winners (l.wins a) k) (options g t) a (plain rows) f ≡ true → subject_ends k (options g t) a (plain rows) f ≡ true
    of_kind a (WhenAny args) f e = one_ends_less (plain rows) (l.wins a) args f e
    of_kind a k f e = e

    by_kind : (k : TaskKind) (f : Final) → subject_left g l rows t k f ≡ true → subject_set g (plain rows) t k f ≡ true
    by_kind (Continues a) f e = of_kind a (kind g a) f e
    by_kind k f e = e

module _ (g : TaskGraph) (l : LeafAssumed) (rows : List Row) (nothing : (t : ℕ) → ((whole_row rows t).asked ≡ []) × ((whole_row rows t).asks ≡ [])) (closed : Closed g l.assumed (plain rows)) where
  abbrev flat : List PlainRow
  flat = plain rows

  -- a start that is found is on a path
  starts : (p c : ℕ) (known : Knowledge) → known_at_start g l rows p c ≡ Some known → MayStartChild (view g l.assumed flat p) (body g p) c
  starts p c known e =
      may_start_more (view g l.assumed flat p) (token_view g l rows p) (body g p) c (view_more g l rows p)
      (may_start c (reading g l rows p) (asked_of rows p) (body g p) (is_some_of (known_at_start g l rows p c) known e))

  faulted_child : (t c : ℕ) (b : Bool) → mem c (attached g t) ≡ b → MayFault (if b then Some (record { ends = (row flat c).ends; facts = ends_with rows c }) else None) → (mem c (attached g t) ≡ true) × (has (row flat c).ends Faulted ≡ true)
  faulted_child t c true e m = (e, m)
  faulted_child t c false e m = absurd m

  -- an end that is found is one of a path
  body_may : (t : ℕ) (f : Final) (known : Knowledge) → known_at_end g l rows t f ≡ Some known → BodyMayEnd g l.assumed flat t f
  body_may t RanToCompletion known e =
      may_end_more (view g l.assumed flat t) (token_view g l rows t) (body g t) _ (view_more g l rows t)
      (may_return (reading g l rows t) (asked_of rows t) (body g t) (is_some_of (known_at_end g l rows t RanToCompletion) known e))
  body_may t Canceled known e =
      may_end_more (view g l.assumed flat t) (token_view g l rows t) (body g t) _ (view_more g l rows t)
      (may_acknowledge (reading g l rows t) (asked_of rows t) (body g t) (is_some_of (known_at_end g l rows t Canceled) known e))
  body_may t Faulted known e =
      elim (may_fault (reading g l rows t) (asked_of rows t) (body g t) (is_some_of (known_at_end g l rows t Faulted) known e)) [
        | inl q ↦ inl (may_throw_more (view g l.assumed flat t) (token_view g l rows t) (body g t) (view_more g l rows t) q)
        | inr q ↦
            let w = faulted_child t q.0 (mem q.0 (attached g t)) refl q.2 in
            inr (q.0, w.0, may_start_more (view g l.assumed flat t) (token_view g l rows t) (body g t) q.0 (view_more g l rows t) q.1, w.1)
      ]

  runs_more : (t : ℕ) (k : TaskKind) → RunsRule g l.assumed flat t k → TokenRunsRule g l rows t k
  runs_more t Root c = c
  runs_more t (Continues a) c = λ f e al n. c f e al
  runs_more t Child c = λ p known par run e n. c p par run (starts p t known e)
  runs_more t (WhenAll args) c = tt
  runs_more t (WhenAny args) c = tt

  -- a task that a started child is may run
  child_runs : (t p : ℕ) (known : Knowledge) → is_task g t → kind g t ≡ Child → IsParent g p t → may_run rows p ≡ true → known_at_start g l rows p t ≡ Some known → may_run rows t ≡ true
  child_runs t p known i k par run e = (subst (λ z. RunsRule g l.assumed flat t z) k (closed t i).runs) p par run (starts p t known e)

  root_runs : (t : ℕ) → is_task g t → kind g t ≡ Root → may_run rows t ≡ true
  root_runs t i k = subst (λ z. RunsRule g l.assumed flat t z) k (closed t i).runs

  -- each way is one that the rules without tokens know
  way_before : (t : ℕ) (k : TaskKind) (way : Way) → is_task g t → kind g t ≡ k → MayEndBy g l rows t k way → MayEndAs g l.assumed flat t k (way_final way) ⊎ ((args : List ℕ) × ((k ≡ WhenAll args) ⊎ (k ≡ WhenAny args)))
  way_before t Root (ByBody f known) i k m = inl (m.0, inl (body_may t f known m.1))
  way_before t Child (ByBody f known) i k m = inl (m.0, inl (body_may t f known m.1))
  way_before t (Continues a) (ByBody f known) i k m = inl (inl (m.0, body_may t f known m.1))
  way_before t (WhenAll args) (ByBody f known) i k m = inr (args, inl refl)
  way_before t (WhenAny args) (ByBody f known) i k m = inr (args, inr refl)
  way_before t Root RootDropped i k m = inl (root_runs t i k, inr (refl, m))
  way_before t Child (ChildDropped p known) i k m = inl (child_runs t p known i k m.1 m.2 m.3, inr (refl, m.0))
  way_before t (Continues a) DroppedEarly i k m = inl (inr (refl, inl m))
  way_before t (Continues a) DroppedLate i k m = inl (inr (refl, inr (inl (m.0, some_end flat a m.1))))
  way_before t (Continues a) NotAllowed i k m = inl (inr (refl, inr (inr m)))
  way_before t other way i k m = absurd m

  abbrev EndsBefore : ℕ → TaskKind → Type 0
  EndsBefore t k = (f : Final) → end_left l.assumed t f ≡ true → MayEndAs g l.assumed flat t k f → has (row flat t).ends f ≡ true

  way_ends : (t : ℕ) (k : TaskKind) → is_task g t → kind g t ≡ k → ((args : List ℕ) → (k ≡ WhenAll args) ⊎ (k ≡ WhenAny args) → ⊥) → EndsBefore t k → (way : Way) → IsWay g l rows t way → has (row flat t).ends (way_final way) ≡ true
  way_ends t k i same bodied c way w =
      elim (way_before t k way i same (subst (λ z. MayEndBy g l rows t z way) same w.1)) [
        | inl m ↦ c (way_final way) w.0 m
        | inr a ↦ absurd (bodied a.0 a.1)
      ]

  ends_more : (t : ℕ) (k : TaskKind) → is_task g t → kind g t ≡ k → EndsBefore t k → TokenEndsRule g l rows t (with_winners (l.wins t) k)
  ends_more t (WhenAll args) i same c = c
  ends_more t (WhenAny args) i same c = λ x cut m e. let f = some_end flat x e in c RanToCompletion cut (refl, (x, f.0, mem_filter (l.wins t) x args m, f.1))
  ends_more t k i same c = way_ends t k i same (λ args e. elim e [ inl q ↦ absurd (cc) | inr q ↦ absurd (cc) ]) c

  no_member : (k : ℕ) (xs : List ℕ) → xs ≡ [] → mem k xs ≡ true → ⊥
  no_member k [] q m = true_false (sym m)
  no_member k (x ∷ xs) q m = absurd (cc)

  or_once : (x y : ℕ) → (x ≡ y) ⊎ (mem x (row flat y).past ≡ true) → once_ended rows y (IsSettled x) ≡ true
  or_once x y (inl q) = or_left (nat_eq x y) (mem x (row flat y).past) (subst (λ z. nat_eq x z ≡ true) q (same_self x))
  or_once x y (inr q) = or_right (nat_eq x y) (mem x (row flat y).past) q

  begin_more : (t : ℕ) (k : TaskKind) (x : ℕ) → BeforeRule g flat t k x → BeginRule g l rows t k (IsSettled x)
  begin_more t Root x c = c
  begin_more t (Continues a) x c = or_once x a c
  begin_more t Child x c = c
  begin_more t (WhenAll args) x c = tt
  begin_more t (WhenAny args) x c = tt

  -- what holds whatever way a child takes
  child_holds : (t x : ℕ) → kind g t ≡ Child → ((p : ℕ) → IsParent g p t → mem x (row flat p).before ≡ true) → (way : Way) → IsWay g l rows t way → HoldsBy g rows t Child (IsSettled x) way
  child_holds t x same f (ByBody e known) w = inr (inl f)
  child_holds t x same f (ChildDropped p known) w = inr (inl (f p (subst (λ z. MayEndBy g l rows t z (ChildDropped p known)) same w.1).1))
  child_holds t x same f way w = absurd (subst (λ z. MayEndBy g l rows t z way) same w.1)

  -- and a continuation that isn't canceled early
  late_holds : (t a x : ℕ) → is_task g t → kind g t ≡ Continues a → may_end_early g l.assumed flat t ≡ false → once_ended rows a (IsSettled x) ≡ true → (way : Way) → IsWay g l rows t way → HoldsBy g rows t (Continues a) (IsSettled x) way
  late_holds t a x i same n o (ByBody e known) w = inr (inl o)
  late_holds t a x i same n o DroppedLate w = inr o
  late_holds t a x i same n o NotAllowed w = o
  late_holds t a x i same n o DroppedEarly w =
      let m = subst (λ z. MayEndBy g l rows t z DroppedEarly) same w.1 in
      let has_it = subst (λ z. EndsBefore t z) same (closed t i).ends Canceled w.0 (inr (refl, inl m)) in
      true_false (sym (and_from (is_loud g l.assumed t && not (lazy_cancellation (options g t))) (has (row flat t).ends Canceled) (and_from (is_loud g l.assumed t) (not (lazy_cancellation (options g t))) m.0 (not_from_false (lazy_cancellation (options g t)) m.1)) has_it) ∙ n)
  late_holds t a x i same n o RootDropped w = absurd (subst (λ z. MayEndBy g l rows t z RootDropped) same w.1)
  late_holds t a x i same n o (ChildDropped p known) w = absurd (subst (λ z. MayEndBy g l rows t z (ChildDropped p known)) same w.1)

  end_more : (t : ℕ) (k : TaskKind) (x : ℕ) → is_task g t → kind g t ≡ k → PastRule g l.assumed flat t k x → EndRule g l rows t (with_winners (l.wins t) k) (IsSettled x)
  end_more t Root x i same c = inl c
  end_more t Child x i same (inl c) = inr (child_holds t x same c)
  end_more t Child x i same (inr c) = inl c
  end_more t (Continues a) x i same (inl c) = inr (late_holds t a x i same c.0 (or_once x a c.1))
  end_more t (Continues a) x i same (inr c) = inl c
  end_more t (WhenAll args) x i same c = (c.0, c.1, or_once x c.0 c.2)
  end_more t (WhenAny args) x i same c = λ y m e. or_once x y (c y (mem_filter (l.wins t) y args m))

  links_more : (y : ℕ) (xs : List ℕ) → Links g l.assumed flat y xs → TokenLinks g l rows y xs
  links_more y [] c = c
  links_more y (x ∷ []) c = inl c
  links_more y (x ∷ z ∷ zs) c = (c.0, links_more x (z ∷ zs) c.1)

  chain_more : (t : ℕ) (xs : List ℕ) → ChainRule g l.assumed flat t xs → TokenChainRule g l rows t xs
  chain_more t [] c = c
  chain_more t (x ∷ xs) c = links_more t (x ∷ xs) c

  closed_more : ClosedWithTokens g l rows
  closed_more t i = let c = closed t i in record {
    runs = runs_more t (kind g t) c.runs;
    ends = ends_more t (kind g t) i refl c.ends;
    begin = λ run fact m. by_begin run fact m;
    end = λ fact m. by_end fact m;
    chain = chain_more t (row flat t).chain c.chain;
  }
    where
      by_begin : may_run rows t ≡ true → (fact : Fact) → begins_with rows t fact ≡ true → BeginRule g l rows t (kind g t) fact
      by_begin run (IsSettled x) m = begin_more t (kind g t) x ((closed t i).before run x m)
      by_begin run (IsRequested k) m = absurd (no_member k (whole_row rows t).asked (nothing t).0 m)

      by_end : (fact : Fact) → ends_with rows t fact ≡ true → EndRule g l rows t (kind_left g l t) fact
      by_end (IsSettled x) m = end_more t (kind g t) x i refl ((closed t i).past x m)
      by_end (IsRequested k) m = absurd (no_member k (whole_row rows t).asks (nothing t).1 m)

proves_more : (g : TaskGraph) (l : LeafAssumed) (rows : List Row) (p : Property TaskId) → Proves g l.assumed (plain rows) p → ProvesWithTokens g l rows p
proves_more g l rows (Observed t) (inl p) = inl p
proves_more g l rows (Observed t) (inr (inl p)) = inr (inl p)
proves_more g l rows (Observed t) (inr (inr (inl p))) = inr (inr (inl p))
proves_more g l rows (Observed t) (inr (inr (inr p))) =
    inr (inr (inr (inl (none_of Knowledge (at_throw (reading g l rows t.0) (asked_of rows t.0) (body g t.0)) (λ e. p (may_throw_more (view g l.assumed (plain rows) t.0) (token_view g l rows t.0) (body g t.0) (view_more g l rows t.0) (may_throw (reading g l rows t.0) (asked_of rows t.0) (body g t.0) e)))))))
proves_more g l rows other p = p

pub tokens_are_more_lem : TokensAreMore
tokens_are_more_lem g l rows none closed = (closed_more g l rows (λ t. no_tokens rows t none) closed, λ p pr. proves_more g l rows p pr)

-- what is narrowed assumes more
narrowed_more : (g : TaskGraph) (l : LeafAssumed) → AssumesMore l.assumed (narrowed g l).assumed
narrowed_more g l = record {
  possible = λ i value e. e;
  quiet = λ k e. e;
  left = λ t f e. narrowed_less g (length g.tasks) l.assumed.left t f e;
  ended = λ t f e. e;
  sure = λ site e. e;
}

pub tree_accepted : (g : TaskGraph) (p : Property TaskId) (l : LeafAssumed) (tree : Tree) → AcceptsTree g p l.assumed tree → AcceptsTokenTree g p l tree
tree_accepted g p l (OnInput i a b) acc = (acc.0, tree_accepted g p (input_split l i true) a acc.1, tree_accepted g p (input_split l i false) b acc.2)
tree_accepted g p l (OnEnd t a b c) acc = (
  acc.0,
  tree_accepted g p (end_split l t RanToCompletion) a acc.1,
  tree_accepted g p (end_split l t Canceled) b acc.2,
  tree_accepted g p (end_split l t Faulted) c acc.3,
)
tree_accepted g p l (OnWinner n x a b) acc = absurd acc
tree_accepted g p l (RowsLeaf rows) acc =
    let n = more_is_assumed_lem g l.assumed (narrowed g l).assumed (plain rows) (narrowed_more g l) acc.2 in
    let m = tokens_are_more_lem g (narrowed g l) rows acc.4 n.0 in
    (acc.0, acc.1, no_ids g rows acc.4, (m.0, m.1 p (n.1 p acc.3)))
tree_accepted g p l LeastLeaf acc = absurd acc

pub tokens_accept_more_lem : TokensAcceptMore
tokens_accept_more_lem g [] [] acc = tt
tokens_accept_more_lem g (claim ∷ claims) (tree ∷ trees) acc = (
  tree_accepted g claim.body (assumed_with_tokens g claim) tree (tree_more g claim.body (assumed_for WithoutTokens g claim) (assumed_for WithTokens g claim) tree (token_more g claim.given claim.body) acc.0),
  tokens_accept_more_lem g claims trees acc.1,
)
tokens_accept_more_lem g [] (tree ∷ trees) acc = acc
tokens_accept_more_lem g (claim ∷ claims) [] acc = acc
