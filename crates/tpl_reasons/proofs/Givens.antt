-- What is given, in words.
use Rattle.std.proofs.Common.{◌≡◌, ◌∙◌, ◌+◌, ◌<◌, ◌++◌, ℕ, zero, suc, Bool, true, false, not, List, [], ◌∷◌, ap, ap₂, codes, filter, get_or, length, map, sym, take, arith}
use Rattle.std.proofs.lemmas.List.{length-take-le, map_push, take_more}
use Rattle.tpl_model.specs.declared.claim.Given.{Given}
use Rattle.tpl_model.specs.declared.claim.Given.TheVariants.{Input}
use Rattle.tpl_draft.specs.Named.{Names}
use Rattle.tpl_reasons.specs.Words.{are_all_jobs, given_word, given_words, inputs_given, is_of_job, listed}

-- one value more
snoc : (n m : ℕ) (values : List Bool) (value : Bool) → m ≡ n + length values → inputs_given n (values ++ value ∷ []) ≡ inputs_given n values ++ Input (record { 0 = m }) value ∷ []
snoc n m [] value e = let same : n ≡ m = omega (arith, e) in ap (λ k. Input (record { 0 = k }) value ∷ []) same
snoc n m (x ∷ values) value e = ap (λ z. Input (record { 0 = n }) x ∷ z) (snoc (suc n) m values value (omega (arith, e)))

-- the value at the next place
pub inputs_more : (values : List Bool) (i : ℕ) (value : Bool) (old new : List Given) → i < length values → value ≡ get_or values i false → old ≡ inputs_given 0 (take i values) → new ≡ old ++ Input (record { 0 = i }) value ∷ [] → new ≡ inputs_given 0 (take (i + 1) values)
inputs_more values i value old new lt is so_far more =
    let here : i ≡ 0 + length (take i values) = let len = length-take-le i values (omega (arith, lt)) in omega (arith, len) in
    more
    ∙ (ap (λ z. z ++ Input (record { 0 = i }) value ∷ []) so_far
    ∙ (ap (λ x. inputs_given 0 (take i values) ++ Input (record { 0 = i }) x ∷ []) is
    ∙ (sym (snoc 0 i (take i values) (get_or values i false) here)
    ∙ ap (λ z. inputs_given 0 z) (sym (take_more values i false lt)))))

-- where no job fails, that is said last
pub jobs_last : {A : Type 0} (text : A → List ℕ) (names : Names) (given others : List Given) (words more : List A) (last : A) → are_all_jobs names given ≡ true → others ≡ filter (λ one. not (is_of_job one)) given → map text words ≡ map (given_word names) others → more ≡ words ++ last ∷ [] → text last ≡ codes "no job fails" → listed (codes " and ") (map text more) ≡ given_words names given
jobs_last text names given others words more last all without each pushed said =
    let plain : map text more ≡ map (given_word names) others ++ codes "no job fails" ∷ [] =
    ap (map text) pushed ∙ (map_push text words last ∙ ap₂ (λ (xs : List (List ℕ)) (x : List ℕ). xs ++ x ∷ []) each said) in
    rw all (ap (listed (codes " and ")) (plain ∙ ap (λ (xs : List Given). map (given_word names) xs ++ codes "no job fails" ∷ []) without))
