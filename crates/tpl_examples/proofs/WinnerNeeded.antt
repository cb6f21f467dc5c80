-- A certificate with a split on a winner is accepted for a claim, and none without one.
use Rattle.std.proofs.Common.{◌≡◌, ℕ, ◌<◌, ◌||◌, inl, inr, not, Bool, true, false, if◌then◌else◌, Some, None, List, [], ◌∷◌, filter, refl, sym, ◌∙◌, subst, arith, nat_eq}
use Rattle.std.proofs.lemmas.Bool.{and_from, or_left, or_right}
use Rattle.tpl_model.proofs.Truths.{true_false}
use Rattle.tpl_model.specs.declared.finals.Final.{Final}
use Rattle.tpl_model.specs.declared.finals.Final.TheVariants.{RanToCompletion, Canceled, Faulted}
use Rattle.tpl_model.specs.Finals.{has, is_final}
use Rattle.tpl_model.specs.Members.{mem}
use Rattle.tpl_model.specs.Knowledge.{IsSettled, Knowledge, as_facts, meet, when}
use Rattle.tpl_model.specs.Recursion.{another}
use Rattle.tpl_model.specs.declared.ids.TaskId.{TaskId}
use Rattle.tpl_model.specs.declared.claim.Property.{Property}
use Rattle.tpl_model.specs.Certificate.{row, IsBelow, child, deeper, may_end, Row, plain, Tree, OnInput, OnEnd, OnWinner, RowsLeaf, LeastLeaf}
use Rattle.tpl_model.specs.TokenRules.{begins_with, ends_with, asked_of, token_view, known_at_start, may_run, ByBody, IsWay, ClosedWithTokens, ProvesWithTokens, LeafAssumed, narrowed, end_split, assumed_with_tokens}
use Rattle.tpl_laws.specs.LeastRows.{least_rows}
use Rattle.tpl_laws.specs.TokenTrees.{AcceptsTokenTree, AcceptsWithTokens}
use Rattle.tpl_laws.specs.TokenVerdict.{TokenVerdictIsRight}
use Rattle.tpl_laws.proofs.Basics.{same_number, final_self}
use Rattle.tpl_laws.proofs.Settling.{filter_mem}
use Rattle.tpl_laws.proofs.RowsAreTrue.{one_ends_mem}
use Rattle.tpl_examples.specs.Words.{begins_after, claim}
use Rattle.tpl_examples.specs.WinnerRules.{races, races_tree, NoWinners}
use Rattle.tpl_examples.proofs.Computed.{valid}

abbrev says : Property TaskId
says = begins_after 1 4

abbrev assumes : LeafAssumed
assumes = assumed_with_tokens races (claim says)

-- the verdict finds no fault
pub accepted : TokenVerdictIsRight → AcceptsWithTokens races (claim says ∷ []) (races_tree ∷ [])
accepted right = (right races (claim says ∷ []) (races_tree ∷ []) (valid races refl)).0 refl

-- how the tasks end where the second wins
abbrev bound : ℕ → Final
bound t = if nat_eq t 1 then Faulted else RanToCompletion

-- what is assumed leaves this open, and who wins
record IsOpen (l : LeafAssumed) : Type 0 where
  first : l.assumed.left 0 RanToCompletion ≡ true
  second : l.assumed.left 1 Faulted ≡ true
  third : l.assumed.left 2 RanToCompletion ≡ true
  given : (t : ℕ) (f : Final) → l.assumed.ended t f ≡ true
  wins : (n x : ℕ) → l.wins n x ≡ true

-- a split on an end has a branch that does
end_open : (l : LeafAssumed) (t : ℕ) (f : Final) → bound t ≡ f → IsOpen l → IsOpen (end_split l t f)
end_open l t f e o = record {
  first = and_from (l.assumed.left 0 RanToCompletion) (not (nat_eq t 0) || is_final f RanToCompletion) o.first (stays 0);
  second = and_from (l.assumed.left 1 Faulted) (not (nat_eq t 1) || is_final f Faulted) o.second (stays 1);
  third = and_from (l.assumed.left 2 RanToCompletion) (not (nat_eq t 2) || is_final f RanToCompletion) o.third (stays 2);
  given = o.given;
  wins = o.wins;
}
  where
    by_test : (s : ℕ) (c : Bool) → nat_eq t s ≡ c → not c || is_final f (bound s) ≡ true
    by_test s false q = refl
    by_test s true q = subst (λ z. is_final f (bound z) ≡ true) (same_number t s q) (subst (λ z. is_final z (bound t) ≡ true) e (final_self (bound t)))

    stays : (s : ℕ) → not (nat_eq t s) || is_final f (bound s) ≡ true
    stays s = by_test s (nat_eq t s) refl

by_bound : (t : ℕ) (A : Type 0) → (bound t ≡ RanToCompletion → A) → (bound t ≡ Faulted → A) → A
by_bound t A x y = pick (nat_eq t 1) x y
  where
    pick : (b : Bool) → ((if b then Faulted else RanToCompletion) ≡ RanToCompletion → A) → ((if b then Faulted else RanToCompletion) ≡ Faulted → A) → A
    pick true x y = y refl
    pick false x y = x refl

narrowed_open : (l : LeafAssumed) → IsOpen l → IsOpen (narrowed races l)
narrowed_open l o = record {
  first = and_from (l.assumed.left 0 RanToCompletion) (l.assumed.left 3 Canceled || true) o.first (or_right (l.assumed.left 3 Canceled) true refl);
  second = and_from (l.assumed.left 1 Faulted) (l.assumed.left 3 Canceled || true) o.second (or_right (l.assumed.left 3 Canceled) true refl);
  third = and_from (l.assumed.left 2 RanToCompletion) (l.assumed.left 3 Canceled || true) o.third (or_right (l.assumed.left 3 Canceled) true refl);
  given = o.given;
  wins = o.wins;
}

none_below : (c : ℕ) → IsBelow races 0 c → ⊥
none_below c (child m) = true_false (sym m)
none_below c (deeper b m) = none_below _ b

at_start_known : (s b : Bool) (k : Knowledge) → s ≡ true → meet (meet (when s (Some k)) (when b None)) None ≡ Some k
at_start_known true true k e = refl
at_start_known true false k e = refl
at_start_known false b k e = true_false (sym e)

-- then a closed leaf doesn't prove the claim
module _ (l : LeafAssumed) (rows : List Row) (o : IsOpen l) (closed : ClosedWithTokens races l rows) where
  abbrev at_begin : ℕ → Knowledge
  at_begin t = record { requested = asked_of rows t; later = as_facts (asked_of rows t) }

  zeroth : 0 < 5
  zeroth = omega arith

  first_runs : may_run rows 0 ≡ true
  first_runs = (closed 0 zeroth).runs

  first_way : IsWay races l rows 0 (ByBody RanToCompletion (at_begin 0))
  first_way = (and_from (l.assumed.left 0 RanToCompletion) (l.assumed.ended 0 RanToCompletion) o.first (o.given 0 RanToCompletion), (first_runs, refl))

  first_ends : has (row (plain rows) 0).ends RanToCompletion ≡ true
  first_ends = (closed 0 zeroth).ends (ByBody RanToCompletion (at_begin 0)) first_way

  first_past : ends_with rows 0 (IsSettled 1) ≡ true → ⊥
  first_past m =
      elim ((closed 0 zeroth).end (IsSettled 1) m) [
        | inl b ↦ none_below 1 b
        | inr f ↦ elim (f (ByBody RanToCompletion (at_begin 0)) first_way) [
          | inl b ↦ absurd ((closed 0 zeroth).begin first_runs (IsSettled 1) b)
          | inr d ↦ elim d [ inl b ↦ absurd b | inr b ↦ true_false (sym b) ]
        ]
      ]

  second_ends : has (row (plain rows) 1).ends Faulted ≡ true
  second_ends =
      let i : 1 < 5 = omega arith in
      (closed 1 i).ends (ByBody Faulted (at_begin 1))
      (and_from (l.assumed.left 1 Faulted) (l.assumed.ended 1 Faulted) o.second (o.given 1 Faulted), ((closed 1 i).runs, refl))

  may_win : (x : ℕ) → mem x (0 ∷ 1 ∷ []) ≡ true → mem x (filter (l.wins 2) (0 ∷ 1 ∷ [])) ≡ true
  may_win x m = filter_mem (l.wins 2) x (0 ∷ 1 ∷ []) m (o.wins 2 x)

  first_may_end : may_end (plain rows) 0 ≡ true
  first_may_end = or_left (has (row (plain rows) 0).ends RanToCompletion) (has (row (plain rows) 0).ends Canceled || has (row (plain rows) 0).ends Faulted) first_ends

  third_ends : has (row (plain rows) 2).ends RanToCompletion ≡ true
  third_ends =
      let i : 2 < 5 = omega arith in
      (closed 2 i).ends 0 (and_from (l.assumed.left 2 RanToCompletion) (l.assumed.ended 2 RanToCompletion) o.third (o.given 2 RanToCompletion)) (may_win 0 refl) first_may_end

  third_past : ends_with rows 2 (IsSettled 1) ≡ true → ⊥
  third_past m = let i : 2 < 5 = omega arith in first_past ((closed 2 i).end (IsSettled 1) m 0 (may_win 0 refl) first_may_end)

  fourth_runs : may_run rows 3 ≡ true
  fourth_runs = let i : 3 < 5 = omega arith in (closed 3 i).runs RanToCompletion third_ends refl refl

  fourth_before : begins_with rows 3 (IsSettled 1) ≡ true → ⊥
  fourth_before m = let i : 3 < 5 = omega arith in third_past ((closed 3 i).begin fourth_runs (IsSettled 1) m)

  child_known : known_at_start races l rows 3 4 ≡ Some (at_begin 3)
  child_known =
      let view = token_view races l rows 3 in
      at_start_known (view.subject Faulted) (another view Faulted) (at_begin 3) (one_ends_mem (filter (l.wins 2) (0 ∷ 1 ∷ [])) (plain rows) 1 Faulted (may_win 1 refl) second_ends)

  child_runs : may_run rows 4 ≡ true
  child_runs = let i : 4 < 5 = omega arith in (closed 4 i).runs 3 (at_begin 3) refl fourth_runs child_known refl

  proves_not : ProvesWithTokens races l rows says → ⊥
  proves_not (inl n) = true_false (sym child_runs ∙ n)
  proves_not (inr m) = let i : 4 < 5 = omega arith in fourth_before ((closed 4 i).begin child_runs (IsSettled 1) m 3 refl)

not_accepted : (l : LeafAssumed) (tree : Tree) → IsOpen l → NoWinners tree → AcceptsTokenTree races says l tree → ⊥
not_accepted l (OnInput i a b) o none acc = let lt : i < 0 = acc.0 in absurd (omega arith)
not_accepted l (OnEnd t a b c) o none acc =
    by_bound t ⊥
    (λ e. not_accepted (end_split l t RanToCompletion) a (end_open l t RanToCompletion e o) none.0 acc.1)
    (λ e. not_accepted (end_split l t Faulted) c (end_open l t Faulted e o) none.2 acc.3)
not_accepted l (OnWinner n x a b) o none acc = absurd none
not_accepted l (RowsLeaf rows) o none acc = proves_not (narrowed races l) rows (narrowed_open l o) acc.3.0 acc.3.1
not_accepted l LeastLeaf o none acc = proves_not (narrowed races l) (least_rows races (narrowed races l) says) (narrowed_open l o) acc.0 acc.1

pub needed : (tree : Tree) → NoWinners tree → AcceptsWithTokens races (claim says ∷ []) (tree ∷ []) → ⊥
needed tree none acc = not_accepted assumes tree (record { first = refl; second = refl; third = refl; given = λ t f. refl; wins = λ n x. refl }) none acc.0
