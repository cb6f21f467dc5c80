-- Along a chain.
use Rattle.std.proofs.Common.{◌≡◌, ℕ, ◌+◌, ◌<◌, ◌&&◌, Bool, true, false, List, [], ◌∷◌, drop, length, map, refl, sym, ap, ◌∙◌, slice_index_or, nat_lt, arith}
use Rattle.std.proofs.lemmas.List.{drop_more, length-drop}
use Rattle.std.proofs.lemmas.Bool.{and_parts}
use Rattle.tpl_model.specs.declared.ids.TaskId.{TaskId}
use Rattle.tpl_model.specs.Graph.{TaskGraph}
use Rattle.tpl_model.specs.Certificate.{Assumed}
use Rattle.tpl_draft.specs.Ids.{task_number}
use Rattle.tpl_laws.specs.RowTests.{all_in, chain_by, reads, takes_over}
use Rattle.tpl_graph.specs.Roles.{AreTasks}
use Rattle.tpl_checker.proofs.Basics.{drop_all, next_task, tasks_left}

-- a test of chains from a task on: the last task has to read, and each before it to take over
pub record LeadsOn (g : TaskGraph) (reads_it : ℕ → ℕ → Bool) (leads : ℕ → List ℕ → Bool) : Type 0 where
  pub none : (y : ℕ) → leads y [] ≡ true
  pub last : (y x : ℕ) → leads y (x ∷ []) ≡ reads_it x y
  pub more : (y x z : ℕ) (zs : List ℕ) → leads y (x ∷ z ∷ zs) ≡ (takes_over g x y && leads x (z ∷ zs))

pub chain_leads : (g : TaskGraph) (l : Assumed) → LeadsOn g (reads g l) (chain_by g l)
chain_leads g l = record { none = λ y. refl; last = λ y x. refl; more = λ y x z zs. refl }

-- what is left of the chain from the i-th task on has to lead on from the carrier
pub record ChainFrom (g : TaskGraph) (leads : ℕ → List ℕ → Bool) (t : ℕ) (chain : List TaskId) (i carrier : ℕ) : Type 0 where
  pub left : AreTasks (length g.tasks) (drop i chain)
  pub same : leads t (map task_number chain) ≡ leads carrier (map task_number (drop i chain))

module _ {g : TaskGraph} {reads_it : ℕ → ℕ → Bool} {leads : ℕ → List ℕ → Bool} {t : ℕ} {chain : List TaskId} {i carrier : ℕ} (law : LeadsOn g reads_it leads) (d : TaskId) (lt : i < length chain) (so_far : ChainFrom g leads t chain i carrier) where
  pub next_is_task : (slice_index_or chain i d).0 < length g.tasks
  next_is_task = next_task chain i d lt (length g.tasks) so_far.left

  here : (rest : List TaskId) → drop (i + 1) chain ≡ rest → leads t (map task_number chain) ≡ leads carrier (map task_number (slice_index_or chain i d ∷ rest))
  here rest e = so_far.same ∙ ap (λ (ts : List TaskId). leads carrier (map task_number ts)) (drop_more chain i d lt ∙ ap (λ (ts : List TaskId). slice_index_or chain i d ∷ ts) e)

  pub chain_last : i + 1 ≡ length chain → reads_it (slice_index_or chain i d).0 carrier ≡ leads t (map task_number chain)
  chain_last e = sym (here [] (drop_all chain (i + 1) (omega arith)) ∙ law.last carrier (slice_index_or chain i d).0)

  on : (rest : List TaskId) → drop (i + 1) chain ≡ rest → 0 < length rest → leads t (map task_number chain) ≡ (takes_over g (slice_index_or chain i d).0 carrier && leads (slice_index_or chain i d).0 (map task_number rest))
  on [] e some = absurd (omega arith)
  on (z ∷ zs) e some = here (z ∷ zs) e ∙ law.more carrier (slice_index_or chain i d).0 z.0 (map task_number zs)

  after : i + 1 < length chain → leads t (map task_number chain) ≡ (takes_over g (slice_index_or chain i d).0 carrier && leads (slice_index_or chain i d).0 (map task_number (drop (i + 1) chain)))
  after lt' = on (drop (i + 1) chain) refl (simp length-drop (omega arith))

  pub chain_stops : i + 1 < length chain → takes_over g (slice_index_or chain i d).0 carrier ≡ false → false ≡ leads t (map task_number chain)
  chain_stops lt' e = sym (after lt' ∙ ap (λ z. z && leads (slice_index_or chain i d).0 (map task_number (drop (i + 1) chain))) e)

  pub chain_step : i + 1 < length chain → takes_over g (slice_index_or chain i d).0 carrier ≡ true → ChainFrom g leads t chain (i + 1) (slice_index_or chain i d).0
  chain_step lt' e = record {
    left = tasks_left chain i d lt (length g.tasks) so_far.left;
    same = after lt' ∙ ap (λ z. z && leads (slice_index_or chain i d).0 (map task_number (drop (i + 1) chain))) e;
  }

-- a chain without a task leads nowhere from its own
pub chain_none : {g : TaskGraph} {reads_it : ℕ → ℕ → Bool} {leads : ℕ → List ℕ → Bool} {t i carrier : ℕ} {chain : List TaskId} → LeadsOn g reads_it leads → drop i chain ≡ [] → ChainFrom g leads t chain i carrier → true ≡ leads t (map task_number chain)
chain_none {leads = leads} {carrier = carrier} law e s = sym (s.same ∙ (ap (λ (ts : List TaskId). leads carrier (map task_number ts)) e ∙ law.none carrier))

pub tasks_of_test : (n : ℕ) (ts : List TaskId) → all_in (λ x. nat_lt x n) (map task_number ts) ≡ true → AreTasks n ts
tasks_of_test n [] e = tt
tasks_of_test n (t ∷ ts) e =
    let s = and_parts (nat_lt t.0 n) (all_in (λ x. nat_lt x n) (map task_number ts)) e in
    (lt_of t.0 n s.0, tasks_of_test n ts s.1)
  where
    lt_of : (a m : ℕ) → nat_lt a m ≡ true → a < m
    lt_of a m h = grind arith
