-- The table of requested tokens, one token further.
use Rattle.std.proofs.Common.{◌≡◌, ℕ, ◌+◌, ◌<◌, ◌||◌, Bool, false, List, [], ◌∷◌, length, set, refl, sym, ap, ◌∙◌, arith, subst, inl, inr}
use Rattle.std.specs.Prelude.{slice_index_or}
use Rattle.std.proofs.lemmas.Bool.{cases_eq}
use Rattle.std.proofs.lemmas.List.{get_or-set_same, get_or-set_other, length-set}
use Rattle.tpl_model.specs.declared.event.Event.{Event}
use Rattle.tpl_model.specs.Graph.{TaskGraph, Token, Plain, Linked, token, sources, sources_of, some_in}
use Rattle.tpl_model.specs.Facts.{requested, requested_itself}
use Rattle.tpl_model.specs.Valid.{IsGraph, IsLinked, AreBefore}
use Rattle.tpl_laws.specs.Runs.{RequestedByASource}
use Rattle.tpl_run.specs.Tokens.{IsTable}

same_in : (f f' : ℕ → Bool) (i : ℕ) (xs : List ℕ) → AreBefore i xs → ((k : ℕ) → k < i → f k ≡ f' k) → some_in f xs ≡ some_in f' xs
same_in f f' i [] before same = refl
same_in f f' i (x ∷ xs) before same = ap (λ b. b || some_in f xs) (same x before.0) ∙ ap (λ b. f' x || b) (same_in f f' i xs before.1 same)

are_before : (i : ℕ) (k : Token) → IsLinked i k → AreBefore i (sources_of k)
are_before i Plain linked = tt
are_before i (Linked xs) linked = linked.0

pub table_step : (g : TaskGraph) (v : List Bool) (h : List Event) (table : List Bool) (i : ℕ) (xs : List ℕ) (marked : Bool) → RequestedByASource → IsGraph g → i < length g.tokens → xs ≡ sources g i → marked ≡ (slice_index_or table i false || some_in (λ k. slice_index_or table k false) xs) → IsTable g v h table i → IsTable g v h (set table i marked) (i + 1)
table_step g v h table i xs marked law valid lt xs_are is t =
    let room : i < length table = let a = valid.tokens in let b = t.count in omega arith in
    let here : marked ≡ requested g v h i =
    is
    ∙ (ap (λ b. b || some_in (λ k. slice_index_or table k false) xs) (t.above i (omega arith) lt)
    ∙ (ap (λ ys. requested_itself g v h i || some_in (λ k. slice_index_or table k false) ys) xs_are
    ∙ (ap (λ b. requested_itself g v h i || b) (same_in (λ k. slice_index_or table k false) (requested g v h) i (sources g i) (are_before i (token g i) (valid.links i lt)) t.below)
    ∙ sym (law g v h i)))) in
    record {
      below = λ k below. elim (cases_eq k i) [
        | inl same ↦ subst (λ j. slice_index_or (set table i marked) j false ≡ requested g v h j) (sym same) (get_or-set_same table i marked false room ∙ here)
        | inr apart ↦ get_or-set_other table i k marked false apart ∙ t.below k (omega arith)
      ];
      above = λ k above within. get_or-set_other table i k marked false (λ (same : k ≡ i). omega arith) ∙ t.above k (omega arith) within;
      count = length-set table i marked ∙ t.count;
    }
