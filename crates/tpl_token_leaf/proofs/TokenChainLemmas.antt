-- Along a chain, and of the arguments that may win.
use Rattle.std.proofs.Common.{◌≡◌, ℕ, ◌+◌, ◌<◌, ◌&&◌, ◌||◌, Bool, true, false, if◌then◌else◌, List, [], ◌∷◌, drop, filter, length, map, nat_eq, refl, sym, ap, ◌∙◌, subst, slice_index_or, inl, inr}
use Rattle.std.proofs.lemmas.List.{drop_more}
use Rattle.std.proofs.lemmas.Bool.{and_from}
use Rattle.tpl_model.proofs.MemberLemmas.{mem_split}
use Rattle.tpl_model.proofs.Truths.{and_first, and_second, same_tests, true_false}
use Rattle.tpl_model.specs.declared.ids.TaskId.{TaskId}
use Rattle.tpl_model.specs.Members.{mem}
use Rattle.tpl_model.specs.Graph.{TaskGraph, kind}
use Rattle.tpl_model.specs.TokenRules.{LeafAssumed}
use Rattle.tpl_draft.specs.Ids.{task_number}
use Rattle.tpl_laws.specs.RowTests.{all_in, implies, reads}
use Rattle.tpl_laws.specs.TokenTests.{reads_winner, token_chain}
use Rattle.tpl_laws.proofs.Settling.{mem_filter, filter_mem}
use Rattle.tpl_checker.proofs.ChainLemmas.{LeadsOn}
use Rattle.tpl_token_leaf.proofs.PastLemmas.{filtered_all}

-- x reads what y carries, itself or behind WhenAny
abbrev pub reads_it : TaskGraph → LeafAssumed → ℕ → ℕ → Bool
reads_it g l x y = reads g l.assumed x y || reads_winner g l x y (kind g x)

pub token_chain_leads : (g : TaskGraph) (l : LeafAssumed) → LeadsOn g (reads_it g l) (token_chain g l)
token_chain_leads g l = record { none = λ y. refl; last = λ y x. refl; more = λ y x z zs. refl }

-- a member that passes a test is one of those that do
filter_passes : (p : ℕ → Bool) (y : ℕ) (xs : List ℕ) → mem y (filter p xs) ≡ true → p y ≡ true
filter_passes p y [] m = true_false (sym m)
filter_passes p y (x ∷ xs) m = pick (λ n. filter_passes p y xs n) (p x) refl m
  where
    pick : (mem y (filter p xs) ≡ true → p y ≡ true) → (b : Bool) → p x ≡ b → mem y (if b then (x ∷ filter p xs) else filter p xs) ≡ true → p y ≡ true
    pick old true e n = elim (mem_split y x (filter p xs) n) [ inl q ↦ subst (λ z. p z ≡ true) (sym q) e | inr q ↦ old q ]
    pick old false e n = old n

pub member_filtered : (p : ℕ → Bool) (y : ℕ) (xs : List ℕ) → (mem y xs && p y) ≡ mem y (filter p xs)
member_filtered p y xs =
    same_tests (mem y xs && p y) (mem y (filter p xs)) (λ e. filter_mem p y xs (and_first (mem y xs) (p y) e) (and_second (mem y xs) (p y) e)) (λ m. and_from (mem y xs) (p y) (mem_filter p y xs m) (filter_passes p y xs m))

-- no other than y so far of those that may win
pub record AloneSoFar (p : ℕ → Bool) (y : ℕ) (args : List TaskId) (i : ℕ) : Type 0 where
  pub same : all_in (λ x. nat_eq x y) (filter p (map task_number args)) ≡ all_in (λ x. nat_eq x y) (filter p (map task_number (drop i args)))

module _ (p : ℕ → Bool) (y : ℕ) (args : List TaskId) (i : ℕ) (d : TaskId) (lt : i < length args) (s : AloneSoFar p y args i) where
  opened : all_in (λ x. nat_eq x y) (filter p (map task_number args)) ≡ (implies (p (slice_index_or args i d).0) (nat_eq (slice_index_or args i d).0 y) && all_in (λ x. nat_eq x y) (filter p (map task_number (drop (i + 1) args))))
  opened = s.same ∙ (ap (λ (ts : List TaskId). all_in (λ x. nat_eq x y) (filter p (map task_number ts))) (drop_more args i d lt) ∙ filtered_all (λ x. nat_eq x y) p (slice_index_or args i d).0 (map task_number (drop (i + 1) args)))

  pub alone_still : implies (p (slice_index_or args i d).0) (nat_eq (slice_index_or args i d).0 y) ≡ true → AloneSoFar p y args (i + 1)
  alone_still e = record { same = opened ∙ ap (λ z. z && all_in (λ x. nat_eq x y) (filter p (map task_number (drop (i + 1) args)))) e }

  pub not_alone : implies (p (slice_index_or args i d).0) (nat_eq (slice_index_or args i d).0 y) ≡ false → false ≡ all_in (λ x. nat_eq x y) (filter p (map task_number args))
  not_alone e = sym (opened ∙ ap (λ z. z && all_in (λ x. nat_eq x y) (filter p (map task_number (drop (i + 1) args)))) e)

pub all_alone : (p : ℕ → Bool) (y : ℕ) (args : List TaskId) (i : ℕ) → drop i args ≡ [] → AloneSoFar p y args i → true ≡ all_in (λ x. nat_eq x y) (filter p (map task_number args))
all_alone p y args i e s = sym (s.same ∙ ap (λ (ts : List TaskId). all_in (λ x. nat_eq x y) (filter p (map task_number ts))) e)
