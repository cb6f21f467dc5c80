-- Levels of tasks whose exceptions are read, and the chain down from the last of them.
use Rattle.std.proofs.Common.{◌≡◌, ℕ, zero, suc, ◌+◌, ◌-◌, ◌<◌, ◌≤◌, ◌&&◌, ◌++◌, Bool, true, false, if◌then◌else◌, Some, None, List, [], ◌∷◌, length, map, refl, sym, ap, ◌∙◌, subst, slice_index_or, inl, inr, arith}
use Rattle.std.proofs.lemmas.Bool.{cases_lt}
use Rattle.std.proofs.Math.Seq.{get_or-append_seam}
use Rattle.std.proofs.lemmas.List.{append-nil, get_or_append_left, length-append}
use Rattle.tpl_model.specs.declared.ids.TaskId.{TaskId}
use Rattle.tpl_model.specs.declared.claim.Property.{Property}
use Rattle.tpl_model.specs.declared.claim.Property.TheVariants.{Observed}
use Rattle.tpl_model.specs.Members.{mem}
use Rattle.tpl_model.specs.Graph.{TaskGraph}
use Rattle.tpl_model.specs.TokenRules.{LeafAssumed}
use Rattle.tpl_draft.specs.Ids.{task_number}
use Rattle.tpl_laws.specs.RowTests.{some_below, takes_over}
use Rattle.tpl_laws.specs.LeastRows.{chain_after, chain_for, chain_from, followed, is_reader, is_read_after, least_from, shortest_chain}
use Rattle.tpl_checker.proofs.Assuming.{whatever_past}
use Rattle.tpl_token_check.specs.Levels.{AreLevels, observes_it}

-- the first of n numbers that passes the test isn't among the first i
pub record NotYet (test : ℕ → Bool) (n i : ℕ) : Type 0 where
  pub same : least_from test 0 n ≡ least_from test i (n - i)

pub not_yet : (test : ℕ → Bool) (n : ℕ) → NotYet test n 0
not_yet test n = let all : n ≡ n - 0 = omega arith in record { same = ap (λ k. least_from test 0 k) all }

module _ (test : ℕ → Bool) (n i : ℕ) (lt : i < n) (s : NotYet test n i) where
  opened : least_from test 0 n ≡ (if test i then Some i else least_from test (i + 1) (n - (i + 1)))
  opened =
      let left : n - i ≡ suc (n - (i + 1)) = omega arith in
      let next : suc i ≡ i + 1 = omega arith in
      s.same ∙ (ap (λ k. least_from test i k) left ∙ ap (λ k. if test i then Some i else least_from test k (n - (i + 1))) next)

  pub found_here : test i ≡ true → Some i ≡ least_from test 0 n
  found_here e = sym (opened ∙ ap (λ b. if b then Some i else least_from test (i + 1) (n - (i + 1))) e)

  pub not_here : test i ≡ false → NotYet test n (i + 1)
  not_here e = record { same = opened ∙ ap (λ b. if b then Some i else least_from test (i + 1) (n - (i + 1))) e }

pub never : (test : ℕ → Bool) (n i : ℕ) → n ≤ i → NotYet test n i → None ≡ least_from test 0 n
never test n i le s = let none : n - i ≡ 0 = omega arith in sym (s.same ∙ ap (λ k. least_from test i k) none)

-- the first i levels, the next one, and that the exception of t isn't read after fewer than i tasks
pub record LevelsSoFar (g : TaskGraph) (l : LeafAssumed) (t i : ℕ) (levels : List (List ℕ)) (level : List ℕ) : Type 0 where
  pub count : length levels ≡ i
  pub are : AreLevels g l levels
  pub now : (y : ℕ) → mem y level ≡ is_read_after g l i y
  pub same : chain_from g l t 0 16 ≡ chain_from g l t i (16 - i)

no_level_below : {A : Type 0} (k : ℕ) → k < 0 → A
no_level_below k lt = absurd (omega arith)

pub first_level : (g : TaskGraph) (l : LeafAssumed) (t : ℕ) (levels : List (List ℕ)) (level : List ℕ) → levels ≡ [] → ((y : ℕ) → mem y level ≡ is_read_after g l zero y) → LevelsSoFar g l t 0 levels level
first_level g l t levels level e h = record {
  count = ap length e;
  are = record { members = λ k y lt. no_level_below k (subst (λ (xs : List (List ℕ)). k < length xs) e lt) };
  now = h;
  same = refl;
}

module _ (g : TaskGraph) (l : LeafAssumed) (t i : ℕ) (levels : List (List ℕ)) (level : List ℕ) (lt : i < 16) (s : LevelsSoFar g l t i levels level) where
  split : chain_from g l t 0 16 ≡ (if is_read_after g l i t then chain_after g l i t else chain_from g l t (i + 1) (16 - (i + 1)))
  split =
      let left : 16 - i ≡ suc (16 - (i + 1)) = omega arith in
      let next : suc i ≡ i + 1 = omega arith in
      s.same ∙ (ap (λ k. chain_from g l t i k) left ∙ ap (λ k. if is_read_after g l i t then chain_after g l i t else chain_from g l t k (16 - (i + 1))) next)

  pub level_here : mem t level ≡ true → chain_after g l (length levels) t ≡ chain_from g l t 0 16
  level_here e =
      ap (λ k. chain_after g l k t) s.count
      ∙ sym (split ∙ ap (λ b. if b then chain_after g l i t else chain_from g l t (i + 1) (16 - (i + 1))) (sym (s.now t) ∙ e))

  more : (k y : ℕ) → k < i + 1 → mem y (slice_index_or (levels ++ level ∷ []) k []) ≡ is_read_after g l k y
  more k y below = elim (cases_lt k i) [
    | inl lower ↦
        let inside : k < length levels = subst (λ n. k < n) (sym s.count) lower in
        ap (λ (xs : List ℕ). mem y xs) (get_or_append_left levels (level ∷ []) [] k inside) ∙ s.are.members k y inside
    | inr above ↦
        let at : k ≡ i = omega arith in
        let last : k ≡ length levels = at ∙ sym s.count in
        ap (λ (xs : List ℕ). mem y xs) (ap (λ n. slice_index_or (levels ++ level ∷ []) n []) last ∙ get_or-append_seam levels level [] [])
        ∙ (s.now y ∙ ap (λ n. is_read_after g l n y) (sym at))
  ]

  pub level_next : (all : List (List ℕ)) (next : List ℕ) → mem t level ≡ false → all ≡ levels ++ level ∷ [] → ((y : ℕ) → mem y next ≡ some_below (λ x. takes_over g x y && mem x level) (length g.tasks)) → LevelsSoFar g l t (i + 1) all next
  level_next all next e is h = record {
    count = many;
    are = record { members = λ k y lower. ap (λ (xs : List (List ℕ)). mem y (slice_index_or xs k [])) is ∙ more k y (subst (λ n. k < n) many lower) };
    now = λ y. h y ∙ ((λ j. some_below (λ x. takes_over g x y && s.now x j) (length g.tasks)) ∙ ap (λ n. is_read_after g l n y) up);
    same = split ∙ ap (λ b. if b then chain_after g l i t else chain_from g l t (i + 1) (16 - (i + 1))) (sym (s.now t) ∙ e);
  }
    where
      many : length all ≡ i + 1
      many = ap length is ∙ (length-append levels (level ∷ []) ∙ ap (λ n. n + 1) s.count)

      up : suc i ≡ i + 1
      up = omega arith

pub no_level : (g : TaskGraph) (l : LeafAssumed) (t i : ℕ) (levels : List (List ℕ)) (level : List ℕ) → 16 ≤ i → LevelsSoFar g l t i levels level → [] ≡ chain_from g l t 0 16
no_level g l t i levels level le s = let none : 16 - i ≡ 0 = omega arith in sym (s.same ∙ ap (λ k. chain_from g l t i k) none)

pub level_at : (g : TaskGraph) (l : LeafAssumed) (levels : List (List ℕ)) (level : List ℕ) (k : ℕ) → k < length levels → level ≡ slice_index_or levels k level → AreLevels g l levels → (y : ℕ) → mem y level ≡ is_read_after g l k y
level_at g l levels level k lt e are y = ap (λ (xs : List ℕ). mem y xs) (e ∙ whatever_past levels k level [] lt) ∙ are.members k y lt

-- a task has a chain if it is the one whose exception is to be observed
pub chain_is : (g : TaskGraph) (l : LeafAssumed) (p : Property TaskId) (t : ℕ) → chain_for g l p t ≡ (if observes_it p t then shortest_chain g l t else [])
chain_is g l (Observed o) t = refl
chain_is g l p t = refl

-- the chain so far, and what is still to come from its last task on
pub record DownTo (g : TaskGraph) (l : LeafAssumed) (n t k carrier : ℕ) (chain : List TaskId) : Type 0 where
  pub same : map task_number chain ++ chain_after g l k carrier ≡ chain_after g l n t

pub at_top : (g : TaskGraph) (l : LeafAssumed) (n t : ℕ) (chain : List TaskId) → chain ≡ [] → DownTo g l n t n t chain
at_top g l n t chain e = record { same = ap (λ (ts : List TaskId). map task_number ts ++ chain_after g l n t) e }

-- a chain with one task more
longer : (chain : List TaskId) (x : TaskId) (rest : List ℕ) → map task_number (chain ++ x ∷ []) ++ rest ≡ map task_number chain ++ (x.0 ∷ rest)
longer [] x rest = refl
longer (y ∷ chain) x rest = ap (λ (xs : List ℕ). y.0 ∷ xs) (longer chain x rest)

-- at the level before m
module _ {g : TaskGraph} {l : LeafAssumed} {levels : List (List ℕ)} {t m carrier : ℕ} {chain : List TaskId} (are : AreLevels g l levels) (level : List ℕ) (some : 0 < m) (within : m - 1 < length levels) (at : level ≡ slice_index_or levels (m - 1) level) (s : DownTo g l (length levels) t m carrier chain) where
  on : map task_number chain ++ followed (least_from (λ x. takes_over g x carrier && mem x level) 0 (length g.tasks)) (chain_after g l (m - 1)) ≡ chain_after g l (length levels) t
  on =
      let is : suc (m - 1) ≡ m = omega arith in
      (λ i. map task_number chain ++ followed (least_from (λ x. takes_over g x carrier && level_at g l levels level (m - 1) within at are x i) 0 (length g.tasks)) (chain_after g l (m - 1)))
      ∙ (ap (λ z. map task_number chain ++ chain_after g l z carrier) is ∙ s.same)

  pub one_down : (x : TaskId) (all : List TaskId) → Some x.0 ≡ least_from (λ x. takes_over g x carrier && mem x level) 0 (length g.tasks) → all ≡ chain ++ x ∷ [] → DownTo g l (length levels) t (m - 1) x.0 all
  one_down x all e added = record {
    same = ap (λ (ts : List TaskId). map task_number ts ++ chain_after g l (m - 1) x.0) added ∙ (longer chain x (chain_after g l (m - 1) x.0) ∙ (ap (λ o. map task_number chain ++ followed o (chain_after g l (m - 1))) e ∙ on));
  }

  pub none_down : None ≡ least_from (λ x. takes_over g x carrier && mem x level) 0 (length g.tasks) → map task_number chain ≡ chain_after g l (length levels) t
  none_down e = sym (append-nil (map task_number chain)) ∙ (ap (λ o. map task_number chain ++ followed o (chain_after g l (m - 1))) e ∙ on)

module _ (g : TaskGraph) (l : LeafAssumed) (n t k carrier : ℕ) (chain : List TaskId) (is : k ≡ 0) (s : DownTo g l n t k carrier chain) where
  last : map task_number chain ++ followed (least_from (is_reader g l carrier) 0 (length g.tasks)) (λ r. []) ≡ chain_after g l n t
  last = ap (λ z. map task_number chain ++ chain_after g l z carrier) (sym is) ∙ s.same

  pub read_last : (x : TaskId) (all : List TaskId) → Some x.0 ≡ least_from (is_reader g l carrier) 0 (length g.tasks) → all ≡ chain ++ x ∷ [] → map task_number all ≡ chain_after g l n t
  read_last x all e added =
      ap (λ (ts : List TaskId). map task_number ts) added
      ∙ (sym (append-nil (map task_number (chain ++ x ∷ []))) ∙ (longer chain x [] ∙ (ap (λ o. map task_number chain ++ followed o (λ r. [])) e ∙ last)))

  pub unread : None ≡ least_from (is_reader g l carrier) 0 (length g.tasks) → map task_number chain ≡ chain_after g l n t
  unread e = sym (append-nil (map task_number chain)) ∙ (ap (λ o. map task_number chain ++ followed o (λ r. [])) e ∙ last)
