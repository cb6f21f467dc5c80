-- Some leaf of each tree agrees with a run so far, and what leaves show of the beginnings of a run holds of it.
use Rattle.tpl_model.specs.declared.rule_set.RuleSet.TheVariants.{WithoutTokens, WithTokens}
use Rattle.tpl_model.specs.declared.rule_set.RuleSet.{RuleSet}
use Rattle.tpl_laws.proofs.Sources.{through_more, through_twice}
use Rattle.tpl_model.specs.declared.finals.Final.{Final}
use Rattle.tpl_model.specs.declared.finals.Final.TheVariants.{RanToCompletion, Canceled, Faulted}
use Rattle.tpl_model.specs.Finals.{has, is_final}
use Rattle.tpl_model.specs.Members.{mem}
use Rattle.tpl_model.specs.declared.ids.TaskId.{TaskId}
use Rattle.tpl_model.specs.declared.status.Label.{Label}
use Rattle.tpl_model.specs.Graph.{TaskGraph, TaskKind, Root, Child, Continues, task, kind, is_task, through}
use Rattle.tpl_model.specs.declared.status.Actor.{Actor}
use Rattle.tpl_model.specs.declared.event.Act.{Act}
use Rattle.tpl_model.specs.declared.event.Event.{Event}
use Rattle.tpl_model.specs.Facts.{begun, begun_by, final_in, requested, failed, started, ending, requested_itself}
use Rattle.tpl_model.specs.Rules.{final, Allows, Run, Settled, seen, label, token_requested, token_requested_by, to_end, Complete}
use Rattle.tpl_model.specs.Claims.{input, Claim, IsGiven, SettledAtBegin, HoldsOf}
use Rattle.tpl_laws.proofs.Basics.{if_false, some_none, the_some, same_number}
use Rattle.tpl_laws.proofs.Kept.{after, requested_kept, failed_kept, final_kept}
use Rattle.tpl_model.specs.Certificate.{PlainRow, row, Assumed, Agrees, same, given_input, given_quiet, given_end, given_sure, assumed, with_input, with_end, NoneComplete, begins_itself, Proves, as_quiet, same_token, own_quiet, taken}
use Rattle.tpl_laws.proofs.Ready.{IsBody}
use Rattle.tpl_laws.proofs.Begins.{Begins, begins}
use Rattle.tpl_laws.proofs.RowsAreTrue.{Upheld}
use Rattle.tpl_model.specs.declared.claim.Given.{Given}
use Rattle.tpl_model.specs.declared.claim.Given.TheVariants.{Input, Quiet, Ended, Succeeds}
use Rattle.tpl_model.specs.declared.claim.Property.{Property}
use Rattle.tpl_model.specs.declared.claim.Property.TheVariants.{Final as EndsIn, After, Observed, Never, Excludes, Runs}
use Rattle.tpl_laws.proofs.Arguments.{may_end_so}
use Rattle.tpl_laws.proofs.Chains.{ended_begun}
use Rattle.std.proofs.Common.{◌≡◌, ℕ, ◌++◌, ◌&&◌, ◌||◌, ◌⊎◌, inl, inr, not, Bool, true, false, if◌then◌else◌, Option, Some, None, List, [], ◌∷◌, refl, sym, ap, ◌∙◌, subst, nat_eq, is_some}
use Rattle.std.proofs.lemmas.Option.{same_Some}
use Rattle.std.proofs.lemmas.Bool.{cases_Bool, and_parts, and_from, or_cases}
use Rattle.tpl_model.proofs.Truths.{true_false}

same_values : (a b : Bool) → b ≡ a → same a b ≡ true
same_values true b e = e
same_values false true e = true_false e
same_values false false e = refl

-- an input's value is one that is given
given_inputs : (g : TaskGraph) (v : List Bool) (h : List Event) (given : List Given) (i : ℕ) → IsGiven g v h given → given_input given i (input v i) ≡ true
given_inputs g v h [] i k = refl
given_inputs g v h (Input j value ∷ given) i k =
    and_from (not (nat_eq j.0 i) || same value (input v i)) (given_input given i (input v i)) (by_test (nat_eq j.0 i) refl) (given_inputs g v h given i k.1)
  where
    by_test : (c : Bool) → nat_eq j.0 i ≡ c → not c || same value (input v i) ≡ true
    by_test true e = same_values value (input v i) (subst (λ z. input v z ≡ value) (same_number j.0 i e) k.0)
    by_test false e = refl
given_inputs g v h (Quiet n ∷ given) i k = given_inputs g v h given i k.1
given_inputs g v h (Ended t ends ∷ given) i k = given_inputs g v h given i k.1
given_inputs g v h (Succeeds site ∷ given) i k = given_inputs g v h given i k.1

given_tokens : (g : TaskGraph) (v : List Bool) (h : List Event) (given : List Given) (k : ℕ) → IsGiven g v h given → given_quiet g given k ≡ true → requested g v h k ≡ false
given_tokens g v h [] k i e = true_false (sym e)
given_tokens g v h (Input j value ∷ given) k i e = given_tokens g v h given k i.1 e
given_tokens g v h (Ended t ends ∷ given) k i e = given_tokens g v h given k i.1 e
given_tokens g v h (Succeeds site ∷ given) k i e = given_tokens g v h given k i.1 e
given_tokens g v h (Quiet n ∷ given) k i e =
    elim (or_cases (through g (nat_eq k) n.0) (given_quiet g given k) e) [
      | inl q ↦ elim (cases_Bool (requested g v h k)) [
        | inl r ↦ true_false (sym (through_twice g (requested_itself g v h) n.0 (through_more g (nat_eq k) (requested g v h) (λ j m. subst (λ z. requested g v h z ≡ true) (same_number k j m) r) n.0 q)) ∙ i.0)
        | inr r ↦ r
      ]
      | inr q ↦ given_tokens g v h given k i.1 q
    ]

-- a task's end is one that is given
given_ends : (g : TaskGraph) (v : List Bool) (h : List Event) (given : List Given) (t : ℕ) (f : Final) → IsGiven g v h given → final g v h t ≡ Some f → given_end given t f ≡ true
given_ends g v h [] t f i e = refl
given_ends g v h (Ended s ends ∷ given) t f i e =
    and_from (not (nat_eq s.0 t) || has ends f) (given_end given t f) (by_test (nat_eq s.0 t) refl) (given_ends g v h given t f i.1 e)
  where
    by_test : (c : Bool) → nat_eq s.0 t ≡ c → not c || has ends f ≡ true
    by_test true q = i.0 f (subst (λ z. final g v h z ≡ Some f) (sym (same_number s.0 t q)) e)
    by_test false q = refl
given_ends g v h (Input j value ∷ given) t f i e = given_ends g v h given t f i.1 e
given_ends g v h (Quiet n ∷ given) t f i e = given_ends g v h given t f i.1 e
given_ends g v h (Succeeds site ∷ given) t f i e = given_ends g v h given t f i.1 e

-- a job that is given as one that succeeds hasn't failed
given_jobs : (g : TaskGraph) (v : List Bool) (h : List Event) (given : List Given) (site : ℕ) → IsGiven g v h given → given_sure given site ≡ true → failed g v h site ≡ false
given_jobs g v h [] site i e = true_false (sym e)
given_jobs g v h (Succeeds s ∷ given) site i e =
    elim (or_cases (nat_eq s.0 site) (given_sure given site) e) [
      | inl q ↦ subst (λ z. failed g v h z ≡ false) (same_number s.0 site q) i.0
      | inr q ↦ given_jobs g v h given site i.1 q
    ]
given_jobs g v h (Input j value ∷ given) site i e = given_jobs g v h given site i.1 e
given_jobs g v h (Quiet n ∷ given) site i e = given_jobs g v h given site i.1 e
given_jobs g v h (Ended t ends ∷ given) site i e = given_jobs g v h given site i.1 e

pub given_agrees : (g : TaskGraph) (v : List Bool) (h : List Event) (given : List Given) → IsGiven g v h given → Agrees g (assumed g given) v h
given_agrees g v h given i = record {
  inputs = λ n. given_inputs g v h given n i;
  quiet = λ k e. given_tokens g v h given k i e;
  ends = λ t f e. given_ends g v h given t f i e;
  jobs = λ site e. given_jobs g v h given site i e;
}

-- on the branch of an input's own value
pub input_agrees : (g : TaskGraph) (l : Assumed) (v : List Bool) (h : List Event) (i : ℕ) (value : Bool) → input v i ≡ value → Agrees g l v h → Agrees g (with_input l i value) v h
input_agrees g l v h i value e agrees = record {
  inputs = λ j. and_from (l.possible j (input v j)) (not (nat_eq i j) || same value (input v j)) (agrees.inputs j) (by_test j (nat_eq i j) refl);
  quiet = agrees.quiet;
  ends = agrees.ends;
  jobs = agrees.jobs;
}
  where
    by_test : (j : ℕ) (c : Bool) → nat_eq i j ≡ c → not c || same value (input v j) ≡ true
    by_test j true q = same_values value (input v j) (subst (λ z. input v z ≡ value) (same_number i j q) e)
    by_test j false q = refl

-- on the branch of a task's own end, or on any while it hasn't ended
pub end_agrees : (g : TaskGraph) (l : Assumed) (v : List Bool) (h : List Event) (t : ℕ) (f : Final) → ((e : Final) → final g v h t ≡ Some e → is_final f e ≡ true) → Agrees g l v h → Agrees g (with_end l t f) v h
end_agrees g l v h t f ends agrees = record {
  inputs = agrees.inputs;
  quiet = agrees.quiet;
  ends = λ s e q.
      let p = and_parts (l.left s e) (l.ended s e) (agrees.ends s e q) in
      and_from (l.left s e && (not (nat_eq t s) || is_final f e)) (l.ended s e) (and_from (l.left s e) (not (nat_eq t s) || is_final f e) p.0 (by_test s e q (nat_eq t s) refl)) p.1;
  jobs = agrees.jobs;
}
  where
    by_test : (s : ℕ) (e : Final) → final g v h s ≡ Some e → (c : Bool) → nat_eq t s ≡ c → not c || is_final f e ≡ true
    by_test s e q true n = ends e (subst (λ z. final g v h z ≡ Some e) (sym (same_number t s n)) q)
    by_test s e q false n = refl

-- the branch of a split on an end that a run takes
-- what is given stays so towards the first event
given_before : (g : TaskGraph) (v : List Bool) (h : List Event) (a : Actor) (x : Act) (given : List Given) → Allows g v h a x → IsGiven g v (after a x h) given → IsGiven g v h given
given_before g v h a x [] al i = tt
given_before g v h a x (Input j value ∷ given) al i = (i.0, given_before g v h a x given al i.1)
given_before g v h a x (Quiet k ∷ given) al i = (
  elim (cases_Bool (requested g v h k.0)) [ inl r ↦ true_false (sym (requested_kept g v h a x k.0 r) ∙ i.0) | inr r ↦ r ],
  given_before g v h a x given al i.1,
)
given_before g v h a x (Ended t ends ∷ given) al i = ((λ f e. i.0 f (final_kept g v h a x t.0 f al e)), given_before g v h a x given al i.1)
given_before g v h a x (Succeeds site ∷ given) al i = (
  elim (cases_Bool (failed g v h site.0)) [ inl r ↦ true_false (sym (failed_kept g v h a x site.0 r) ∙ i.0) | inr r ↦ r ],
  given_before g v h a x given al i.1,
)

pub both_given : (g : TaskGraph) (v : List Bool) (h : List Event) (xs ys : List Given) → IsGiven g v h xs → IsGiven g v h ys → IsGiven g v h (xs ++ ys)
both_given g v h [] ys i j = j
both_given g v h (Input n value ∷ xs) ys i j = (i.0, both_given g v h xs ys i.1 j)
both_given g v h (Quiet k ∷ xs) ys i j = (i.0, both_given g v h xs ys i.1 j)
both_given g v h (Ended t ends ∷ xs) ys i j = (i.0, both_given g v h xs ys i.1 j)
both_given g v h (Succeeds site ∷ xs) ys i j = (i.0, both_given g v h xs ys i.1 j)

-- what may be taken as given is, where the claim's given is and the own tokens aren't requested
pub is_taken : (rules : RuleSet) (g : TaskGraph) (claim : Claim) (v : List Bool) (h : List Event) → IsGiven g v h claim.given → IsGiven g v h (own_quiet g claim.body) → IsGiven g v h (taken rules g claim)
is_taken WithTokens g claim v h i q = both_given g v h (own_quiet g claim.body) claim.given q i
is_taken WithoutTokens g claim v h i q = i

-- a token that isn't requested may be given as quiet
not_asked : (g : TaskGraph) (v : List Bool) (h : List Event) (o : Option ℕ) → token_requested_by o (requested g v h) ≡ false → IsGiven g v h (as_quiet o)
not_asked g v h None e = tt
not_asked g v h (Some k) e = (e, tt)

-- what a leaf shows of a run: that an exception is observed, or what proves the property
abbrev pub Shows : TaskGraph → Assumed → List PlainRow → List Bool → List Event → Property TaskId → Type 0
Shows g l rows v h (Observed t) = Complete g v h → (lb : Label) → label g v h t.0 ≡ Some lb → seen g v h t.0 ≡ true
Shows g l rows v h p = Proves g l rows p

-- a leaf that agrees with a run so far: its rows are true of it, a task that begins next begins as its row says, and it
-- shows the property
pub record ALeaf (g : TaskGraph) (v : List Bool) (h : List Event) (p : Property TaskId) : Type 0 where
  pub assumes : Assumed
  pub rows : List PlainRow
  pub upheld : Upheld g assumes rows v h
  pub runs : (t : ℕ) → Begins g v h t → (row rows t).runs ≡ true
  pub before : (t x : ℕ) → Begins g v h t → mem x (row rows t).before ≡ true → Settled g v h x
  pub shows : Shows g assumes rows v h p

-- where a task that is no child can't end, no run is complete
pub never_complete : (g : TaskGraph) (l : Assumed) (rows : List PlainRow) (v : List Bool) (h : List Event) → Upheld g l rows v h → NoneComplete g rows → Complete g v h → ⊥
never_complete g l rows v h now w complete =
    let e = the_some (ending g v h w.0) (complete w.0 w.1 (whatever (kind g w.0) (started g v h w.0) w.2)) in
    true_false (sym (may_end_so rows w.0 e.0.final (now.ends w.0 e.0.final (ap final_in e.1))) ∙ w.3)
  where
    whatever : (k : TaskKind) (s : Bool) → to_end k false ≡ true → to_end k s ≡ true
    whatever Child s e = true_false (sym e)
    whatever k s e = refl

-- in a complete run a root or continuation that can't be canceled has begun
never_canceled : (g : TaskGraph) (l : Assumed) (rows : List PlainRow) (v : List Bool) (h : List Event) (t : ℕ) → Upheld g l rows v h → is_task g t → begins_itself (kind g t) ≡ true → has (row rows t).ends Canceled ≡ false → Complete g v h → is_some (begun h t) ≡ true
never_canceled g l rows v h t now i b n complete =
    let k = by_kind (kind g t) b in
    let e = the_some (ending g v h t) (complete t i (k.1 (started g v h t))) in
    ended_begun g v h t e.0 now.run k.0 e.1
    (λ c. true_false (sym (subst (λ z. has (row rows t).ends z ≡ true) c (now.ends t e.0.final (ap final_in e.1))) ∙ n))
  where
    by_kind : (k : TaskKind) → begins_itself k ≡ true → IsBody k × ((s : Bool) → to_end k s ≡ true)
    by_kind Root b = (tt, λ s. refl)
    by_kind (Continues a) b = (tt, λ s. refl)
    by_kind k b = true_false (sym b)

-- what some leaf shows of each run so far in which the given is true, and the own token isn't requested, holds
module _ (g : TaskGraph) (given : List Given) (v : List Bool) where
  abbrev pub LeafOf : Property TaskId → Type 0
  LeafOf p = (h : List Event) → Run g v h → IsGiven g v h given → IsGiven g v h (own_quiet g p) → ALeaf g v h p

  after_holds : (a b : TaskId) → LeafOf (After a b) → (h : List Event) → Run g v h → IsGiven g v h given → SettledAtBegin g v a.0 b.0 h
  after_holds a b leaf_of [] run i = tt
  after_holds a b leaf_of (e ∷ h) run i = ((λ s. here (begins g v h e.actor e.act b.0 run.0 run.1 s)), after_holds a b leaf_of h run.0 old)
    where
      old : IsGiven g v h given
      old = given_before g v h e.actor e.act given run.1 i

      here : Begins g v h b.0 → Settled g v h a.0
      here w =
          let l = leaf_of h run.0 old (not_asked g v h (task g b.0).token w.not_requested) in
          elim l.shows [
            | inl no_run ↦ true_false (sym (l.runs b.0 w) ∙ no_run)
            | inr m ↦ l.before b.0 a.0 w m
          ]

  never_holds : (t : TaskId) → LeafOf (Never t) → (h : List Event) → Run g v h → IsGiven g v h given → is_some (begun h t.0) ≡ false
  never_holds t leaf_of [] run i = refl
  never_holds t leaf_of (e ∷ h) run i =
      elim (cases_Bool (begun_by e.act t.0)) [
        | inl s ↦
            let w = begins g v h e.actor e.act t.0 run.0 run.1 s in
            let l = leaf_of h run.0 old (not_asked g v h (task g t.0).token w.not_requested) in
            true_false (sym (l.runs t.0 w) ∙ l.shows)
        | inr n ↦ ap is_some (if_false (begun_by e.act t.0) (Some e.actor) (begun h t.0) n) ∙ never_holds t leaf_of h run.0 old
      ]
    where
      old : IsGiven g v h given
      old = given_before g v h e.actor e.act given run.1 i

  -- the own token, where one of the two tasks begins
  own_of_two : (h : List Event) (a b : ℕ) → (token_requested g v h a ≡ false) ⊎ (token_requested g v h b ≡ false) → IsGiven g v h (if same_token (task g a).token (task g b).token then as_quiet (task g b).token else [])
  own_of_two h a b w = by_tokens (task g a).token (task g b).token w
    where
      by_tokens : (o p : Option ℕ) → (token_requested_by o (requested g v h) ≡ false) ⊎ (token_requested_by p (requested g v h) ≡ false) → IsGiven g v h (if same_token o p then as_quiet p else [])
      by_tokens None p w = tt
      by_tokens (Some j) None w = tt
      by_tokens (Some j) (Some k) w = by_test (nat_eq j k) refl
        where
          by_test : (c : Bool) → nat_eq j k ≡ c → IsGiven g v h (if c then as_quiet (Some k) else [])
          by_test true e = (elim w [ inl q ↦ subst (λ z. requested g v h z ≡ false) (same_number j k e) q | inr q ↦ q ], tt)
          by_test false e = tt

  excludes_holds : (a b : TaskId) → LeafOf (Excludes a b) → (h : List Event) → Run g v h → IsGiven g v h given → is_some (begun h a.0) ≡ true → is_some (begun h b.0) ≡ true → ⊥
  excludes_holds a b leaf_of [] run i p q = true_false (sym p)
  excludes_holds a b leaf_of (e ∷ h) run i p q =
      by_tests (λ x y. excludes_holds a b leaf_of h run.0 (given_before g v h e.actor e.act given run.1 i) x y) (cases_Bool (begun_by e.act a.0)) (cases_Bool (begun_by e.act b.0))
    where
      old : IsGiven g v h given
      old = given_before g v h e.actor e.act given run.1 i

      begun_old : (t : ℕ) → begun_by e.act t ≡ false → is_some (begun (e ∷ h) t) ≡ true → is_some (begun h t) ≡ true
      begun_old t n s = sym (ap is_some (if_false (begun_by e.act t) (Some e.actor) (begun h t) n)) ∙ s

      runs_here : (l : ALeaf g v h (Excludes a b)) (t : ℕ) → is_some (begun (e ∷ h) t) ≡ true → (row l.rows t).runs ≡ true
      runs_here l t s =
          elim (cases_Bool (begun_by e.act t)) [
            | inl m ↦ l.runs t (begins g v h e.actor e.act t run.0 run.1 m)
            | inr n ↦ l.upheld.runs t (begun_old t n s)
          ]

      at_begin : (token_requested g v h a.0 ≡ false) ⊎ (token_requested g v h b.0 ≡ false) → ⊥
      at_begin w =
          let l = leaf_of h run.0 old (own_of_two h a.0 b.0 w) in
          elim l.shows [
            | inl no_run ↦ true_false (sym (runs_here l a.0 p) ∙ no_run)
            | inr no_run ↦ true_false (sym (runs_here l b.0 q) ∙ no_run)
          ]

      by_tests : (is_some (begun h a.0) ≡ true → is_some (begun h b.0) ≡ true → ⊥) → (begun_by e.act a.0 ≡ true) ⊎ (begun_by e.act a.0 ≡ false) → (begun_by e.act b.0 ≡ true) ⊎ (begun_by e.act b.0 ≡ false) → ⊥
      by_tests earlier (inl x) y = at_begin (inl (begins g v h e.actor e.act a.0 run.0 run.1 x).not_requested)
      by_tests earlier (inr x) (inl y) = at_begin (inr (begins g v h e.actor e.act b.0 run.0 run.1 y).not_requested)
      by_tests earlier (inr x) (inr y) = earlier (begun_old a.0 x p) (begun_old b.0 y q)

  pub property_holds : (p : Property TaskId) → LeafOf p → (h : List Event) → Run g v h → IsGiven g v h given → HoldsOf g v h p
  property_holds (EndsIn t ends) leaf_of h run i = let l = leaf_of h run i tt in λ f e. l.shows f (l.upheld.ends t.0 f e)
  property_holds (After a b) leaf_of h run i = after_holds a b leaf_of h run i
  property_holds (Observed t) leaf_of h run i = (leaf_of h run i tt).shows
  property_holds (Never t) leaf_of h run i = never_holds t leaf_of h run i
  property_holds (Excludes a b) leaf_of h run i =
      elim (cases_Bool (is_some (begun h a.0) && is_some (begun h b.0))) [
        | inl both ↦ let w = and_parts (is_some (begun h a.0)) (is_some (begun h b.0)) both in absurd (excludes_holds a b leaf_of h run i w.0 w.1)
        | inr other ↦ other
      ]
  property_holds (Runs t) leaf_of h run i =
      let l = leaf_of h run i tt in
      λ complete. elim l.shows [
        | inl w ↦ never_canceled g l.assumes l.rows v h t.0 l.upheld w.0 w.1 w.2 complete
        | inr never ↦ absurd (never_complete g l.assumes l.rows v h l.upheld never complete)
      ]
