-- Up to 1,024 roots are a graph.
use Rattle.std.proofs.Common.{◌≡◌, ℕ, zero, suc, ◌≤◌, true, false, [], refl, sym, subst, arith, length}
use Rattle.std.specs.Prelude.{replicate, slice_index_or, flat_map, count_by, nat_eq}
use Rattle.std.proofs.lemmas.List.{length-replicate}
use Rattle.tpl_model.specs.Members.{mem}
use Rattle.tpl_model.specs.Options.{has_bits, excludes_all, long_and_sync}
use Rattle.tpl_model.specs.Statements.{Nothing, starts, sites}
use Rattle.tpl_model.specs.Limits.{IsWithinLimits}
use Rattle.tpl_model.specs.Graph.{Task, Child, body, IsParent}
use Rattle.tpl_model.specs.Valid.{IdsOf, OwnToken, IsPlaced, option_words, HasBody, HasSubject, IsTask, IsGraph}
use Rattle.tpl_examples.specs.Words.{root, returns}
use Rattle.tpl_examples.specs.ManyTasks.{roots, NumberOfTasks}

abbrev past : Task
past = root Nothing

-- what is true of the root, and past the last one, is true of each task
at : (P : Task → Type 0) → P (root returns) → P past → (n t : ℕ) → P (slice_index_or (replicate n (root returns)) t past)
at P r d zero t = d
at P r d (suc n) zero = r
at P r d (suc n) (suc t) = at P r d n t

nothing_started : (n p : ℕ) → starts (body (roots n) p) ≡ []
nothing_started n p = at (λ z. starts z.body ≡ []) refl refl n p

no_parent : (n p t : ℕ) → IsParent (roots n) p t → ⊥
no_parent n p t m = let e : false ≡ true = subst (λ z. mem t z ≡ true) (nothing_started n p) m in absurd (cc)

no_sites : (n : ℕ) → flat_map (λ t. sites t.body) (replicate n (root returns)) ≡ []
no_sites zero = refl
no_sites (suc n) = no_sites n

each_root : (n t : ℕ) → IsTask (roots n) t
each_root n t = record {
  short = at (λ z. IsWithinLimits z.body) (omega arith, omega arith) (omega arith, omega arith) n t;
  ids = at (λ z. IdsOf (roots n) z.body) (tt, tt) tt n t;
  own_token = at (λ z. OwnToken (roots n) z.token) tt tt n t;
  placed = at (λ z. IsPlaced (roots n) t z.kind) tt tt n t;
  bodiless = at (λ z. HasBody z.kind z) tt tt n t;
  words = at (λ z. has_bits (option_words z.kind) z.options ≡ true) refl refl n t;
  may_run = at (λ z. excludes_all z.options ≡ false) refl refl n t;
  not_long_and_synchronous = at (λ z. long_and_sync z.options ≡ false) refl refl n t;
  subject = at (λ z. HasSubject z.kind z.body) refl refl n t;
  parent = λ k. absurd (at (λ z. z.kind ≡ Child → ⊥) (λ e. absurd (cc)) (λ e. absurd (cc)) n t k);
  started_once = λ p. subst (λ z. count_by (nat_eq t) z ≤ 1) (sym (nothing_started n p)) (omega arith);
  one_parent = λ p q a b. absurd (no_parent n p t a);
  child = λ p a. absurd (no_parent n p t a);
}

is_graph : (n : ℕ) → n ≤ 1024 → IsGraph (roots n)
is_graph n le = record {
  tasks = let e = length-replicate n (root returns) in omega arith;
  tokens = omega arith;
  links = λ k i. absurd (omega arith);
  inputs = omega arith;
  sites = subst (λ z. length z ≤ 256) (sym (no_sites n)) (omega arith);
  sites_once = λ site. subst (λ z. count_by (nat_eq site) z ≤ 1) (sym (no_sites n)) (omega arith);
  each = λ t i. each_root n t;
}

too_many : IsGraph (roots 1025) → ⊥
too_many valid = let e = length-replicate 1025 (root returns) in let l = valid.tasks in absurd (omega arith)

pub number_of_tasks_lem : NumberOfTasks
number_of_tasks_lem = (is_graph, too_many)
