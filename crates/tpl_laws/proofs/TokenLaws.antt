-- Where more is assumed, fewer paths are left, so what was closed stays so.
use Rattle.std.proofs.Common.{◌≡◌, ℕ, ◌++◌, ◌&&◌, ◌||◌, inl, inr, not, Bool, true, false, if◌then◌else◌, Option, Some, None, List, [], ◌∷◌, refl, sym, ap, ◌∙◌, nat_eq}
use Rattle.std.proofs.lemmas.Bool.{and_parts, and_from, or_cases, or_left, or_right}
use Rattle.tpl_model.proofs.Truths.{true_false}
use Rattle.tpl_model.specs.declared.finals.Final.{Final}
use Rattle.tpl_model.specs.declared.finals.Final.TheVariants.{RanToCompletion, Canceled, Faulted}
use Rattle.tpl_model.specs.Finals.{has, is_final}
use Rattle.tpl_model.specs.Options.{lazy_cancellation}
use Rattle.tpl_model.specs.declared.outcome.Outcome.{Outcome}
use Rattle.tpl_model.specs.Statements.{Statement, Check, Cancel, Work, If, When, Statements}
use Rattle.tpl_model.specs.Paths.{cancellation, Known, GoesOn, EndsAt, Passes, Path, MayEnd, MayThrow, MayStartChild}
use Rattle.tpl_model.specs.Graph.{TaskGraph, TaskKind, Root, Child, Continues, WhenAll, WhenAny, task, kind, body, options}
use Rattle.tpl_model.specs.declared.claim.Given.{Given}
use Rattle.tpl_model.specs.declared.ids.TaskId.{TaskId}
use Rattle.tpl_model.specs.declared.claim.Property.{Property}
use Rattle.tpl_model.specs.declared.claim.Property.TheVariants.{After, Observed, Never, Excludes}
use Rattle.tpl_model.specs.Certificate.{PlainRow, row, plain, Tree, OnInput, OnEnd, OnWinner, RowsLeaf, LeastLeaf, Assumed, end_left, same, given_quiet, assumed, with_input, with_end, is_loud, loud_token, view, RunsRule, BodyMayEnd, MayBeCanceled, MayEndAs, may_end_early, PastRule, Reads, Links, ChainRule, Closed, Proves, AcceptsTree, as_quiet, same_token, own_quiet}
use Rattle.tpl_laws.specs.TokenLaws.{AssumesMore, MoreIsAssumed}

-- u knows what w does, and maybe more
pub record KnowsMore (w u : Known) : Type 0 where
  pub own : u.own ≡ w.own
  pub possible : (i : ℕ) (value : Bool) → u.possible i value ≡ true → w.possible i value ≡ true
  pub loud : (k : ℕ) → u.quiet k ≡ false → w.quiet k ≡ false
  pub subject : (f : Final) → u.subject f ≡ true → w.subject f ≡ true
  pub unsure : (site : ℕ) → u.sure site ≡ false → w.sure site ≡ false

goes_on : (w u : Known) (s : Statement) (more left : Statements) → KnowsMore w u → GoesOn u s more left → GoesOn w s more left
goes_on w u (Cancel n) more left k g = (k.loud n g.0, g.1)
goes_on w u (If i first second) more left k (inl g) = inl (k.possible i true g.0, g.1)
goes_on w u (If i first second) more left k (inr g) = inr (k.possible i false g.0, g.1)
goes_on w u (When f first second) more left k (inl g) = inl (k.subject f g.0, g.1)
goes_on w u (When f first second) more left k (inr g) = inr (g.0, g.1, k.subject g.0 g.2, g.3)
goes_on w u s more left k g = g

ends_at : (w u : Known) (s : Statement) (outcome : Outcome) → KnowsMore w u → EndsAt u s outcome → EndsAt w s outcome
ends_at w u (Check n) outcome k e = (k.loud n e.0, e.1 ∙ ap (λ o. cancellation o n) k.own)
ends_at w u (Work site may_fail) outcome k e = (e.0, k.unsure site e.1, e.2)
ends_at w u s outcome k e = e

passes : (w u : Known) (body : Statements) (ps : List Statement) (left : Statements) → KnowsMore w u → Passes u body ps left → Passes w body ps left
passes w u body [] left k p = p
passes w u body (s ∷ ps) left k p = (p.0, passes w u body ps _ k p.1, goes_on w u s p.0 left k p.2)

path : (w u : Known) (body : Statements) (ps : List Statement) (outcome : Option Outcome) → KnowsMore w u → Path u body ps outcome → Path w body ps outcome
path w u body ps None k p = (p.0, passes w u body ps p.0 k p.1)
path w u body ps (Some outcome) k (inl p) = inl (passes w u body ps _ k p.0, p.1)
path w u body [] (Some outcome) k (inr p) = absurd p
path w u body (s ∷ ps) (Some outcome) k (inr p) = inr (p.0, passes w u body ps _ k p.1, ends_at w u s outcome k p.2)

pub may_end_more : (w u : Known) (body : Statements) (outcome : Outcome) → KnowsMore w u → MayEnd u body outcome → MayEnd w body outcome
may_end_more w u body outcome k m = (m.0, path w u body m.0 (Some outcome) k m.1)

pub may_throw_more : (w u : Known) (body : Statements) → KnowsMore w u → MayThrow u body → MayThrow w body
may_throw_more w u body k m = (m.0, may_end_more w u body _ k m.1)

pub may_start_more : (w u : Known) (body : Statements) (c : ℕ) → KnowsMore w u → MayStartChild u body c → MayStartChild w body c
may_start_more w u body c k m = (m.0, m.1, path w u body m.0 m.1 k m.2, m.3)

unless_so : (b c : Bool) → (b ≡ true → c ≡ true) → c ≡ false → b ≡ false
unless_so true c f e = true_false (sym (f refl) ∙ e)
unless_so false c f e = refl

not_so : (b c : Bool) → (b ≡ true → c ≡ true) → not c ≡ true → not b ≡ true
not_so true c f e = true_false (sym e ∙ ap not (f refl))
not_so false c f e = refl

module _ (g : TaskGraph) (l m : Assumed) (rows : List PlainRow) (more : AssumesMore l m) where
  view_more : (t : ℕ) → KnowsMore (view g l rows t) (view g m rows t)
  view_more t = record {
    own = refl;
    possible = more.possible;
    loud = λ k. unless_so (l.quiet k) (m.quiet k) (more.quiet k);
    subject = λ f e. e;
    unsure = λ site. unless_so (l.sure site) (m.sure site) (more.sure site);
  }

  loud_more : (t : ℕ) → is_loud g m t ≡ true → is_loud g l t ≡ true
  loud_more t e = by_token (task g t).token e
    where
      by_token : (o : Option ℕ) → loud_token m o ≡ true → loud_token l o ≡ true
      by_token None e = e
      by_token (Some k) e = not_so (l.quiet k) (m.quiet k) (more.quiet k) e

  runs_more : (t : ℕ) (k : TaskKind) → RunsRule g l rows t k → RunsRule g m rows t k
  runs_more t Child r = λ p par run s. r p par run (may_start_more (view g l rows p) (view g m rows p) (body g p) t (view_more p) s)
  runs_more t k r = r

  body_more : (t : ℕ) (f : Final) → BodyMayEnd g m rows t f → BodyMayEnd g l rows t f
  body_more t RanToCompletion e = may_end_more (view g l rows t) (view g m rows t) (body g t) _ (view_more t) e
  body_more t Canceled e = may_end_more (view g l rows t) (view g m rows t) (body g t) _ (view_more t) e
  body_more t Faulted (inl e) = inl (may_throw_more (view g l rows t) (view g m rows t) (body g t) (view_more t) e)
  body_more t Faulted (inr e) = inr (e.0, e.1, may_start_more (view g l rows t) (view g m rows t) (body g t) e.0 (view_more t) e.2, e.3)

  canceled_more : (t a : ℕ) → MayBeCanceled g m rows t a → MayBeCanceled g l rows t a
  canceled_more t a (inl e) = inl (loud_more t e.0, e.1)
  canceled_more t a (inr (inl e)) = inr (inl (loud_more t e.0, e.1))
  canceled_more t a (inr (inr e)) = inr (inr e)

  ends_more : (t : ℕ) (k : TaskKind) (f : Final) → MayEndAs g m rows t k f → MayEndAs g l rows t k f
  ends_more t Root f e = (e.0, elim e.1 [ inl b ↦ inl (body_more t f b) | inr c ↦ inr (c.0, loud_more t c.1) ])
  ends_more t Child f e = (e.0, elim e.1 [ inl b ↦ inl (body_more t f b) | inr c ↦ inr (c.0, loud_more t c.1) ])
  ends_more t (Continues a) f (inl e) = inl (e.0, body_more t f e.1)
  ends_more t (Continues a) f (inr e) = inr (e.0, canceled_more t a e.1)
  ends_more t (WhenAll args) f e = e
  ends_more t (WhenAny args) f e = e

  early_more : (t : ℕ) → may_end_early g m rows t ≡ true → may_end_early g l rows t ≡ true
  early_more t e =
      let a = and_parts (is_loud g m t && not (lazy_cancellation (options g t))) (has (row rows t).ends Canceled) e in
      let b = and_parts (is_loud g m t) (not (lazy_cancellation (options g t))) a.0 in
      and_from (is_loud g l t && not (lazy_cancellation (options g t))) (has (row rows t).ends Canceled)
      (and_from (is_loud g l t) (not (lazy_cancellation (options g t))) (loud_more t b.0) b.1) a.1

  past_more : (t : ℕ) (k : TaskKind) (x : ℕ) → PastRule g l rows t k x → PastRule g m rows t k x
  past_more t (Continues a) x (inl p) = inl (unless_so (may_end_early g m rows t) (may_end_early g l rows t) (early_more t) p.0, p.1)
  past_more t (Continues a) x (inr p) = inr p
  past_more t k x p = p

  reads_more : (r y : ℕ) → Reads g l rows r y → Reads g m rows r y
  reads_more r y p =
      let w : Known = record { possible = l.possible; quiet = l.quiet; own = (task g r).token; subject = λ f. is_final f Faulted; sure = l.sure } in
      let u : Known = record { possible = m.possible; quiet = m.quiet; own = (task g r).token; subject = λ f. is_final f Faulted; sure = m.sure } in
      let v = view_more r in
      let k : KnowsMore w u = record { own = refl; possible = v.possible; loud = v.loud; subject = λ f e. e; unsure = v.unsure } in
      record {
        after = p.after;
        on_faulted = p.on_faulted;
        not_loud = unless_so (is_loud g m r) (is_loud g l r) (loud_more r) p.not_loud;
        observes = λ ps outcome q. p.observes ps outcome (path w u (body g r) ps (Some outcome) k q);
      }

  links_more : (y : ℕ) (xs : List ℕ) → Links g l rows y xs → Links g m rows y xs
  links_more y [] p = p
  links_more y (x ∷ []) p = reads_more x y p
  links_more y (x ∷ z ∷ zs) p = (p.0, links_more x (z ∷ zs) p.1)

  chain_more : (t : ℕ) (xs : List ℕ) → ChainRule g l rows t xs → ChainRule g m rows t xs
  chain_more t [] p = p
  chain_more t (x ∷ xs) p = links_more t (x ∷ xs) p

  left_more : (t : ℕ) (f : Final) → end_left m t f ≡ true → end_left l t f ≡ true
  left_more t f e = let s = and_parts (m.left t f) (m.ended t f) e in and_from (l.left t f) (l.ended t f) (more.left t f s.0) (more.ended t f s.1)

  closed_more : Closed g l rows → Closed g m rows
  closed_more closed = λ t i. let c = closed t i in record {
    runs = runs_more t (kind g t) c.runs;
    ends = λ f left e. c.ends f (left_more t f left) (ends_more t (kind g t) f e);
    before = c.before;
    past = λ x n. past_more t (kind g t) x (c.past x n);
    chain = chain_more t (row rows t).chain c.chain;
  }

  proves_more : (p : Property TaskId) → Proves g l rows p → Proves g m rows p
  proves_more (Observed t) (inl p) = inl p
  proves_more (Observed t) (inr (inl p)) = inr (inl p)
  proves_more (Observed t) (inr (inr (inl p))) = inr (inr (inl p))
  proves_more (Observed t) (inr (inr (inr p))) = inr (inr (inr (λ q. p (may_throw_more (view g l rows t.0) (view g m rows t.0) (body g t.0) (view_more t.0) q))))
  proves_more other p = p

pub more_is_assumed_lem : MoreIsAssumed
more_is_assumed_lem g l m rows more closed = (closed_more g l m rows more closed, proves_more g l m rows more)

-- on the branches of a split
input_more : (l m : Assumed) (i : ℕ) (value : Bool) → AssumesMore l m → AssumesMore (with_input l i value) (with_input m i value)
input_more l m i value more = record {
  possible = λ j b e. let s = and_parts (m.possible j b) (not (nat_eq i j) || same value b) e in and_from (l.possible j b) (not (nat_eq i j) || same value b) (more.possible j b s.0) s.1;
  quiet = more.quiet;
  left = more.left;
  ended = more.ended;
  sure = more.sure;
}

end_more : (l m : Assumed) (t : ℕ) (f : Final) → AssumesMore l m → AssumesMore (with_end l t f) (with_end m t f)
end_more l m t f more = record {
  possible = more.possible;
  quiet = more.quiet;
  left = λ s e q. let z = and_parts (m.left s e) (not (nat_eq t s) || is_final f e) q in and_from (l.left s e) (not (nat_eq t s) || is_final f e) (more.left s e z.0) z.1;
  ended = more.ended;
  sure = more.sure;
}

pub tree_more : (g : TaskGraph) (p : Property TaskId) (l m : Assumed) (tree : Tree) → AssumesMore l m → AcceptsTree g p l tree → AcceptsTree g p m tree
tree_more g p l m (OnInput i a b) more acc =
    (acc.0, tree_more g p (with_input l i true) (with_input m i true) a (input_more l m i true more) acc.1, tree_more g p (with_input l i false) (with_input m i false) b (input_more l m i false more) acc.2)
tree_more g p l m (OnEnd t a b c) more acc = (
  acc.0,
  tree_more g p (with_end l t RanToCompletion) (with_end m t RanToCompletion) a (end_more l m t RanToCompletion more) acc.1,
  tree_more g p (with_end l t Canceled) (with_end m t Canceled) b (end_more l m t Canceled more) acc.2,
  tree_more g p (with_end l t Faulted) (with_end m t Faulted) c (end_more l m t Faulted more) acc.3,
)
tree_more g p l m (OnWinner n x a b) more acc = absurd acc
tree_more g p l m (RowsLeaf rows) more acc = (acc.0, acc.1, closed_more g l m (plain rows) more acc.2, proves_more g l m (plain rows) more p acc.3, acc.4)
tree_more g p l m LeastLeaf more acc = absurd acc

-- with own tokens taken as quiet, the rules with tokens assume more
own_more : (g : TaskGraph) (given : List Given) (o : Option ℕ) → AssumesMore (assumed g given) (assumed g (as_quiet o ++ given))
own_more g given None = record { possible = λ i value e. e; quiet = λ k e. e; left = λ t f e. e; ended = λ t f e. e; sure = λ site e. e }
own_more g given (Some k) = record { possible = λ i value e. e; quiet = λ j e. or_right _ (given_quiet g given j) e; left = λ t f e. e; ended = λ t f e. e; sure = λ site e. e }

pub token_more : (g : TaskGraph) (given : List Given) (p : Property TaskId) → AssumesMore (assumed g given) (assumed g (own_quiet g p ++ given))
token_more g given (After a b) = own_more g given (task g b.0).token
token_more g given (Never t) = own_more g given (task g t.0).token
token_more g given (Excludes a b) = by_test (same_token (task g a.0).token (task g b.0).token)
  where
    by_test : (c : Bool) → AssumesMore (assumed g given) (assumed g ((if c then as_quiet (task g b.0).token else []) ++ given))
    by_test true = own_more g given (task g b.0).token
    by_test false = own_more g given None
token_more g given p = own_more g given None
