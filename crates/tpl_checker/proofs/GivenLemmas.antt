-- The tokens that are quiet with the given ones.
use Rattle.std.proofs.Common.{◌≡◌, ℕ, suc, ◌+◌, ◌<◌, ◌≤◌, ◌++◌, ◌&&◌, ◌||◌, not, ◌⊎◌, inl, inr, Bool, true, false, Option, Some, None, List, [], ◌∷◌, drop, length, map, refl, sym, ap, ◌∙◌, subst, nat_eq, slice_index_or, slice_set, arith}
use Rattle.std.proofs.lemmas.List.{get_or-set_same, get_or-set_other, length-set}
use Rattle.std.proofs.lemmas.Bool.Decides.{eqb_tells}
use Rattle.tpl_model.specs.declared.ids.SiteId.{SiteId}
use Rattle.tpl_model.specs.declared.ids.TaskId.{TaskId}
use Rattle.tpl_model.specs.declared.ids.TokenId.{TokenId}
use Rattle.tpl_model.specs.declared.finals.Finals.{Finals}
use Rattle.tpl_model.specs.Finals.{has}
use Rattle.tpl_model.specs.Members.{mem}
use Rattle.std.proofs.lemmas.Bool.{cases_lt, or_cases, or_left, or_right}
use Rattle.std.proofs.lemmas.List.{drop_more, get_or_past}
use Rattle.tpl_model.proofs.MemberLemmas.{mem_split, mem_here, mem_there, same_either_way}
use Rattle.tpl_model.proofs.Truths.{and_assoc, and_true, or_false, true_false, same_tests}
use Rattle.tpl_model.specs.declared.ids.InputId.{InputId}
use Rattle.tpl_model.specs.declared.finals.Final.{Final}
use Rattle.tpl_model.specs.declared.claim.Given.{Given}
use Rattle.tpl_model.specs.declared.claim.Given.TheVariants.{Input, Quiet, Ended, Succeeds}
use Rattle.tpl_model.specs.Graph.{TaskGraph, Token, Plain, Linked, token, sources, sources_of, is_token}
use Rattle.tpl_model.specs.Valid.{IsGraph, AreBefore, IsLinked}
use Rattle.tpl_model.specs.Certificate.{Assumed, as_quiet, assumed, same, given_input, given_quiet, given_end, given_sure, with_input}
use Rattle.tpl_draft.specs.Ids.{token_number}
use Rattle.tpl_laws.specs.Runs.{QuietByALink, gives_quiet}
use Rattle.tpl_checker.specs.declared.assumptions.Assumptions.{Assumptions}
use Rattle.tpl_checker.specs.Assumptions.{AllTokens, assumed_of, nothing_assumed, with_given, with_quiet, with_own, with_ended, with_sure}

-- the first i of the tokens are marked
pub record MarkedSoFar (first now : List Bool) (tokens : List TokenId) (i : ℕ) : Type 0 where
  pub long : length now ≡ 32
  pub left : AllTokens 32 (drop i tokens)
  pub marks : (k : ℕ) → (slice_index_or now k false || mem k (map token_number (drop i tokens))) ≡ (slice_index_or first k false || mem k (map token_number tokens))

pub or_moved : (a b c : Bool) → ((a || b) || c) ≡ (b || (a || c))
or_moved true true c = refl
or_moved true false c = refl
or_moved false b c = refl

-- one more mark
pub mark_set : (xs : List Bool) (i k : ℕ) → i < length xs → slice_index_or (slice_set xs i true) k false ≡ (nat_eq k i || slice_index_or xs k false)
mark_set xs i k lt = elim (eqb_tells k i) [
  | inl (e, q) ↦ subst (λ z. slice_index_or (slice_set xs i true) z false ≡ true) (sym q) (get_or-set_same xs i true false lt) ∙ ap (λ z. z || slice_index_or xs k false) (sym e)
  | inr (e, n) ↦ get_or-set_other xs i k true false n ∙ ap (λ z. z || slice_index_or xs k false) (sym e)
]

pub marked_step : (first now : List Bool) (tokens : List TokenId) (i : ℕ) (t : TokenId) → drop i tokens ≡ t ∷ drop (i + 1) tokens → MarkedSoFar first now tokens i → MarkedSoFar first (slice_set now t.0 true) tokens (i + 1)
marked_step first now tokens i t e m =
    let left : AllTokens 32 (t ∷ drop (i + 1) tokens) = subst (λ (ts : List TokenId). AllTokens 32 ts) e m.left in
    let lt : t.0 < length now = subst (λ n. t.0 < n) (sym m.long) left.0 in
    record {
      long = length-set now t.0 true ∙ m.long;
      left = left.1;
      marks = λ k.
          ap (λ z. z || mem k (map token_number (drop (i + 1) tokens))) (mark_set now t.0 k lt)
          ∙ (or_moved (nat_eq k t.0) (slice_index_or now k false) (mem k (map token_number (drop (i + 1) tokens)))
          ∙ (ap (λ (ts : List TokenId). slice_index_or now k false || mem k (map token_number ts)) (sym e) ∙ m.marks k));
    }

-- a source is declared before the token that is linked to it
before_in : (k j : ℕ) (xs : List ℕ) → AreBefore k xs → mem j xs ≡ true → j < k
before_in k j [] b m = true_false (sym m)
before_in k j (x ∷ xs) b m = elim (mem_split j x xs m) [ inl q ↦ subst (λ z. z < k) (sym q) b.0 | inr q ↦ before_in k j xs b.1 q ]

before_by : (k j : ℕ) (t : Token) → IsLinked k t → mem j (sources_of t) ≡ true → j < k
before_by k j Plain l m = true_false (sym m)
before_by k j (Linked sources) l m = before_in k j sources l.0 m

linked_is_token : (g : TaskGraph) (k j : ℕ) → mem j (sources g k) ≡ true → is_token g k
linked_is_token g k j m = elim (cases_lt k (length g.tokens)) [
  | inl lt ↦ lt
  | inr le ↦ true_false (sym (subst (λ (t : Token). mem j (sources_of t) ≡ true) (get_or_past g.tokens k Plain le) m))
]

source_before : (g : TaskGraph) (k j : ℕ) → IsGraph g → mem j (sources g k) ≡ true → j < k
source_before g k j valid m = before_by k j (token g k) (valid.links k (linked_is_token g k j m)) m

pub sources_within : (g : TaskGraph) (k : ℕ) (ts : List TokenId) → IsGraph g → map token_number ts ≡ sources g k → AllTokens 32 ts
sources_within g k ts valid e = each ts (λ j m. below j (subst (λ (xs : List ℕ). mem j xs ≡ true) e m))
  where
    below : (j : ℕ) → mem j (sources g k) ≡ true → j < 32
    below j m = omega (arith, source_before g k j valid m, linked_is_token g k j m, valid.tokens)

    each : (us : List TokenId) → ((j : ℕ) → mem j (map token_number us) ≡ true → j < 32) → AllTokens 32 us
    each [] h = tt
    each (u ∷ us) h = (h u.0 (mem_here u.0 (map token_number us)), each us (λ j m. h j (mem_there j u.0 (map token_number us) m)))

-- given as quiet, or a source of a quiet token from k on
abbrev QuietBy : TaskGraph → List Given → ℕ → ℕ → Type 0
QuietBy g given k j = (gives_quiet given j ≡ true) ⊎ ((m : ℕ) × (k ≤ m) × (mem j (sources g m) ≡ true) × (given_quiet g given m ≡ true))

-- the marks, once the tokens from k on have marked their sources
pub record QuietFrom (g : TaskGraph) (first now : List Bool) (k : ℕ) : Type 0 where
  pub upto : k ≤ length g.tokens
  pub finds : (given : List Given) → ((j : ℕ) → slice_index_or first j false ≡ gives_quiet given j) → (j : ℕ) → slice_index_or now j false ≡ true → QuietBy g given k j
  pub found : (given : List Given) → ((j : ℕ) → slice_index_or first j false ≡ gives_quiet given j) → (j : ℕ) → QuietBy g given k j → slice_index_or now j false ≡ true

pub quiet_at_first : (g : TaskGraph) (first : List Bool) (k : ℕ) → k ≡ length g.tokens → QuietFrom g first first k
quiet_at_first g first k e = record {
  upto = omega arith;
  finds = λ given same j q. inl (sym (same j) ∙ q);
  found = λ given same j by. elim by [
    | inl q ↦ same j ∙ q
    | inr (m, le, is, q) ↦ let lt = linked_is_token g m j is in absurd (omega arith)
  ];
}

module _ (g : TaskGraph) (valid : IsGraph g) (law : QuietByALink) (first now next : List Bool) (k : ℕ) (so_far : QuietFrom g first now (suc k)) where
  -- the token k is quiet just where it is marked
  is_marked : (given : List Given) → ((j : ℕ) → slice_index_or first j false ≡ gives_quiet given j) → given_quiet g given k ≡ true → slice_index_or now k false ≡ true
  is_marked given same q = elim ((law g given k).0 q) [
    | inl e ↦ so_far.found given same k (inl e)
    | inr (m, is, e) ↦ let lt = source_before g m k valid is in so_far.found given same k (inr (m, (omega arith), is, e))
  ]

  is_quiet : (given : List Given) → ((j : ℕ) → slice_index_or first j false ≡ gives_quiet given j) → slice_index_or now k false ≡ true → given_quiet g given k ≡ true
  is_quiet given same q = elim (so_far.finds given same k q) [
    | inl e ↦ (law g given k).1 (inl e)
    | inr (m, le, is, e) ↦ (law g given k).1 (inr (m, is, e))
  ]

  pub quiet_marked : slice_index_or now k false ≡ true → ((j : ℕ) → slice_index_or next j false ≡ (slice_index_or now j false || mem j (sources g k))) → QuietFrom g first next k
  quiet_marked marked more = record { upto = omega (arith, so_far.upto); finds = to; found = back }
    where
      to : (given : List Given) → ((j : ℕ) → slice_index_or first j false ≡ gives_quiet given j) → (j : ℕ) → slice_index_or next j false ≡ true → QuietBy g given k j
      to given same j q = elim (or_cases (slice_index_or now j false) (mem j (sources g k)) (sym (more j) ∙ q)) [
        | inl e ↦ elim (so_far.finds given same j e) [ inl p ↦ inl p | inr (m, le, is, p) ↦ inr (m, (omega arith), is, p) ]
        | inr e ↦ inr (k, (omega arith), e, is_quiet given same marked)
      ]

      back : (given : List Given) → ((j : ℕ) → slice_index_or first j false ≡ gives_quiet given j) → (j : ℕ) → QuietBy g given k j → slice_index_or next j false ≡ true
      back given same j by = more j ∙ elim by [
        | inl p ↦ or_left (slice_index_or now j false) (mem j (sources g k)) (so_far.found given same j (inl p))
        | inr (m, le, is, p) ↦ elim (eqb_tells m k) [
          | inl (e, q) ↦ or_right (slice_index_or now j false) (mem j (sources g k)) (subst (λ z. mem j (sources g z) ≡ true) q is)
          | inr (e, n) ↦ or_left (slice_index_or now j false) (mem j (sources g k)) (so_far.found given same j (inr (m, (omega arith), is, p)))
        ]
      ]

  pub quiet_unmarked : slice_index_or now k false ≡ false → QuietFrom g first now k
  quiet_unmarked unmarked = record { upto = omega (arith, so_far.upto); finds = to; found = back }
    where
      to : (given : List Given) → ((j : ℕ) → slice_index_or first j false ≡ gives_quiet given j) → (j : ℕ) → slice_index_or now j false ≡ true → QuietBy g given k j
      to given same j q = elim (so_far.finds given same j q) [ inl p ↦ inl p | inr (m, le, is, p) ↦ inr (m, (omega arith), is, p) ]

      back : (given : List Given) → ((j : ℕ) → slice_index_or first j false ≡ gives_quiet given j) → (j : ℕ) → QuietBy g given k j → slice_index_or now j false ≡ true
      back given same j by = elim by [
        | inl p ↦ so_far.found given same j (inl p)
        | inr (m, le, is, p) ↦ elim (eqb_tells m k) [
          | inl (e, q) ↦ true_false (sym (is_marked given same (subst (λ z. given_quiet g given z ≡ true) q p)) ∙ unmarked)
          | inr (e, n) ↦ so_far.found given same j (inr (m, (omega arith), is, p))
        ]
      ]

pub quiet_at_last : (g : TaskGraph) (law : QuietByALink) (first now : List Bool) → QuietFrom g first now 0 → (given : List Given) → ((j : ℕ) → slice_index_or first j false ≡ gives_quiet given j) → (j : ℕ) → slice_index_or now j false ≡ given_quiet g given j
quiet_at_last g law first now q given same j =
    same_tests (slice_index_or now j false) (given_quiet g given j)
    (λ e. elim (q.finds given same j e) [ inl p ↦ (law g given j).1 (inl p) | inr (m, le, is, p) ↦ (law g given j).1 (inr (m, is, p)) ])
    (λ e. q.found given same j (elim ((law g given j).0 e) [ inl p ↦ inl p | inr (m, is, p) ↦ inr (m, (omega arith), is, p) ]))

-- what all of these add is what is assumed with what is left of them
pub record GivenSoFar (all rest : List Given) (a : Assumed) : Type 0 where
  pub possible : (j : ℕ) (b : Bool) → (a.possible j b && given_input rest j b) ≡ given_input all j b
  pub quiet : (j : ℕ) → (a.quiet j || gives_quiet rest j) ≡ gives_quiet all j
  pub left : (t : ℕ) (f : Final) → a.left t f ≡ true
  pub ended : (t : ℕ) (f : Final) → (a.ended t f && given_end rest t f) ≡ given_end all t f
  pub sure : (site : ℕ) → (a.sure site || given_sure rest site) ≡ given_sure all site

step_input : (all left : List Given) (a : Assumed) (k : InputId) (value : Bool) → GivenSoFar all (Input k value ∷ left) a → GivenSoFar all left (with_input a k.0 value)
step_input all left a k value s = record {
  possible = λ j b. and_assoc (a.possible j b) (not (nat_eq k.0 j) || same value b) (given_input left j b) ∙ s.possible j b;
  quiet = s.quiet;
  left = s.left;
  ended = s.ended;
  sure = s.sure;
}

step_quiet : (all left : List Given) (a : Assumed) (k : TokenId) → GivenSoFar all (Quiet k ∷ left) a → GivenSoFar all left (with_quiet a k.0)
step_quiet all left a k s = record {
  possible = s.possible;
  quiet = λ j. or_moved (nat_eq j k.0) (a.quiet j) (gives_quiet left j) ∙ (ap (λ z. a.quiet j || (z || gives_quiet left j)) (same_either_way j k.0) ∙ s.quiet j);
  left = s.left;
  ended = s.ended;
  sure = s.sure;
}

step_ended : (all left : List Given) (a : Assumed) (t : TaskId) (ends : Finals) → GivenSoFar all (Ended t ends ∷ left) a → GivenSoFar all left (with_ended a t.0 ends)
step_ended all left a t ends s = record {
  possible = s.possible;
  quiet = s.quiet;
  left = s.left;
  ended = λ x f. and_assoc (a.ended x f) (not (nat_eq t.0 x) || has ends f) (given_end left x f) ∙ s.ended x f;
  sure = s.sure;
}

step_sure : (all left : List Given) (a : Assumed) (k : SiteId) → GivenSoFar all (Succeeds k ∷ left) a → GivenSoFar all left (with_sure a k.0)
step_sure all left a k s = record {
  possible = s.possible;
  quiet = s.quiet;
  left = s.left;
  ended = s.ended;
  sure = λ j. or_moved (nat_eq j k.0) (a.sure j) (given_sure left j) ∙ (ap (λ z. a.sure j || (z || given_sure left j)) (same_either_way j k.0) ∙ s.sure j);
}

-- one more
pub given_step : (all given : List Given) (i : ℕ) (a next : Assumed) (d : Given) → i < length given → next ≡ with_given a (slice_index_or given i d) → GivenSoFar all (drop i given) a → GivenSoFar all (drop (i + 1) given) next
given_step all given i a next d lt e s =
    subst (λ n. GivenSoFar all (drop (i + 1) given) n) (sym e)
    (go (slice_index_or given i d) (subst (λ (xs : List Given). GivenSoFar all xs a) (drop_more given i d lt) s))
  where
    go : (x : Given) → GivenSoFar all (x ∷ drop (i + 1) given) a → GivenSoFar all (drop (i + 1) given) (with_given a x)
    go (Input k value) f = step_input all (drop (i + 1) given) a k value f
    go (Quiet k) f = step_quiet all (drop (i + 1) given) a k f
    go (Ended t ends) f = step_ended all (drop (i + 1) given) a t ends f
    go (Succeeds k) f = step_sure all (drop (i + 1) given) a k f

-- none yet but the own token, if there is one
pub given_at_first : (own : Option ℕ) (given : List Given) (a : Assumed) → a ≡ with_own (nothing_assumed) own → GivenSoFar (as_quiet own ++ given) given a
given_at_first None given a e =
    subst (λ z. GivenSoFar given given z) (sym e) (record { possible = λ j b. refl; quiet = λ j. refl; left = λ t f. refl; ended = λ t f. refl; sure = λ site. refl })
given_at_first (Some k) given a e =
    subst (λ z. GivenSoFar (Quiet (record { 0 = k }) ∷ given) given z) (sym e)
    (record { possible = λ j b. refl; quiet = λ j. ap (λ z. z || gives_quiet given j) (or_false (nat_eq j k) ∙ same_either_way j k); left = λ t f. refl; ended = λ t f. refl; sure = λ site. refl })

-- all of them
pub given_at_last : (g : TaskGraph) (all given : List Given) (i : ℕ) (a : Assumptions) (marks : List Bool) → drop i given ≡ [] → GivenSoFar all (drop i given) (assumed_of a) → (((k : ℕ) → slice_index_or a.quiet k false ≡ gives_quiet all k) → (k : ℕ) → slice_index_or marks k false ≡ given_quiet g all k) → assumed_of (record a { quiet = marks }) ≡ assumed g all
given_at_last g all given i a marks e s sources =
    let f : GivenSoFar all [] (assumed_of a) = subst (λ (xs : List Given). GivenSoFar all xs (assumed_of a)) e s in
    λ n. record {
      possible = λ j b. (sym (and_true ((assumed_of a).possible j b)) ∙ f.possible j b) n;
      quiet = λ k. sources (λ j. sym (or_false (slice_index_or a.quiet j false)) ∙ f.quiet j) k n;
      left = λ t x. f.left t x n;
      ended = λ t x. (sym (and_true ((assumed_of a).ended t x)) ∙ f.ended t x) n;
      sure = λ j. (sym (or_false ((assumed_of a).sure j)) ∙ f.sure j) n;
    }
