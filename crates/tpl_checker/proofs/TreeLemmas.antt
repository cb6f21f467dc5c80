-- Leaf by leaf, and claim by claim.
use Rattle.tpl_model.specs.declared.rule_set.RuleSet.TheVariants.{WithoutTokens}
use Rattle.std.proofs.Common.{◌≡◌, ℕ, zero, suc, ◌+◌, ◌<◌, ◌≤◌, ◌&&◌, Bool, true, Option, Some, None, Result, Ok, Err, List, [], ◌∷◌, drop, length, refl, sym, ap, ◌∙◌, slice_index_or, nat_lt, inl, inr, arith}
use Rattle.std.specs.Prelude.{IfOk}
use Rattle.std.proofs.lemmas.Bool.{cases_lt, ltb-true, and_parts}
use Rattle.std.proofs.lemmas.List.{drop_more}
use Rattle.tpl_laws.proofs.FaultsDecided.{no_unless}
use Rattle.tpl_model.specs.Graph.{TaskGraph}
use Rattle.tpl_model.specs.Claims.{Claim}
use Rattle.tpl_model.specs.Certificate.{PlainRow, row, Tree, assumed_for}
use Rattle.tpl_model.specs.declared.fault.CertFault.{CertFault}
use Rattle.tpl_model.specs.declared.fault.CertFault.TheVariants.{Shape}
use Rattle.tpl_laws.specs.Verdict.{or_else, has_tasks, rows_fit, tree_fault, claims_fault}
use Rattle.tpl_checker.specs.Leaves.{Failing}
use Rattle.tpl_checker.proofs.Basics.{drop_all}
use Rattle.tpl_checker.proofs.ShapeLemmas.{no_one, FindsMisfits}

pub or_else_first : {A : Type 0} (a b : Option A) (x : A) → a ≡ Some x → or_else a b ≡ Some x
or_else_first (Some y) b x e = e
or_else_first None b x e = absurd (cc)

pub or_else_second : {A : Type 0} (a b : Option A) → a ≡ None → or_else a b ≡ b
or_else_second (Some y) b e = absurd (cc)
or_else_second None b e = refl

-- where the first part has no fault, the second decides
pub failing_second : (a b : Option CertFault) (n m : ℕ) (r : Result ℕ CertFault) → a ≡ None → n ≡ m → Failing b n r → Failing (or_else a b) m r
failing_second a b n m (Ok k) e same f = (or_else_second a b e ∙ f.0, f.1 ∙ same)
failing_second a b n m (Err x) e same f = or_else_second a b e ∙ f

pub chain_fits : (g : TaskGraph) (rows : List PlainRow) (t : ℕ) → rows_fit g rows ≡ true → t < length rows → has_tasks g (row rows t).chain ≡ true
chain_fits g [] t e lt = absurd (omega arith)
chain_fits g (r ∷ rows) zero e lt =
    let s = and_parts (has_tasks g r.before && (has_tasks g r.past && has_tasks g r.chain)) (rows_fit g rows) e in
    let p = and_parts (has_tasks g r.before) (has_tasks g r.past && has_tasks g r.chain) s.0 in
    (and_parts (has_tasks g r.past) (has_tasks g r.chain) p.1).1
chain_fits g (r ∷ rows) (suc t) e lt =
    let s = and_parts (has_tasks g r.before && (has_tasks g r.past && has_tasks g r.chain)) (rows_fit g rows) e in
    chain_fits g rows t s.1 (omega arith)

-- the id of a split is the graph's, where the split fits
pub id_fits : (i n : ℕ) (others : Bool) → nat_lt i n && others ≡ true → i < n
id_fits i n others e = ltb-true i n (and_parts (nat_lt i n) others e).0

-- the first fault of claims with their trees, by the fault of each
pub record FindsFaults {T : Type 0} (fault_of : ℕ → Claim → T → Option CertFault) (fault_from : ℕ → List Claim → List T → Option CertFault) : Type 0 where
  pub none : (n : ℕ) (ts : List T) → fault_from n [] ts ≡ None
  pub next : (n : ℕ) (c : Claim) (cs : List Claim) (t : T) (ts : List T) → fault_from n (c ∷ cs) (t ∷ ts) ≡ or_else (fault_of n c t) (fault_from (suc n) cs ts)

-- the fault of a tree of the n-th claim
abbrev pub fault_of_claim : TaskGraph → ℕ → Claim → Tree → Option CertFault
fault_of_claim g n c t = tree_fault g c.body n (assumed_for WithoutTokens g c) 1 t

pub finds_faults : (g : TaskGraph) → FindsFaults (fault_of_claim g) (claims_fault g)
finds_faults g = record { none = λ n ts. refl; next = λ n c cs t ts. refl }

-- the first i claims are proved, and the others have trees that fit
pub record ClaimsSoFar {T : Type 0} (misfit_from fault_from : ℕ → List Claim → List T → Option CertFault) (claims : List Claim) (trees : List T) (i : ℕ) : Type 0 where
  pub same : fault_from 1 claims trees ≡ fault_from (i + 1) (drop i claims) (drop i trees)
  pub fit : misfit_from (i + 1) (drop i claims) (drop i trees) ≡ None

some_none : {A : Type 0} (x : A) → Some x ≡ None → ⊥
some_none x e = absurd (cc)

module _ {T : Type 0} {fits_it : T → Bool} {misfit_from fault_from : ℕ → List Claim → List T → Option CertFault} {claims : List Claim} {trees : List T} {i : ℕ} (shapes : FindsMisfits fits_it misfit_from) (so_far : ClaimsSoFar misfit_from fault_from claims trees i) (in_claims : i < length claims) where
  pub tree_there : i < length trees
  tree_there = elim (cases_lt i (length trees)) [
    | inl lt ↦ lt
    | inr le ↦
        absurd (some_none (Shape (i + 1))
        (sym ((λ k. misfit_from (i + 1) (drop_more claims i no_one in_claims k) (drop_all trees i le k)) ∙ shapes.no_tree (i + 1) (slice_index_or claims i no_one) (drop (i + 1) claims)) ∙ so_far.fit))
  ]

  others_fit : (t : T) → misfit_from (suc (i + 1)) (drop (i + 1) claims) (drop (i + 1) trees) ≡ None
  others_fit t =
      (no_unless (fits_it (slice_index_or trees i t)) (Shape (i + 1)) (misfit_from (suc (i + 1)) (drop (i + 1) claims) (drop (i + 1) trees))
      (sym
      ((λ k. misfit_from (i + 1) (drop_more claims i no_one in_claims k) (drop_more trees i t tree_there k))
      ∙ shapes.next (i + 1) (slice_index_or claims i no_one) (drop (i + 1) claims) (slice_index_or trees i t) (drop (i + 1) trees))
      ∙ so_far.fit)).1

  module _ {fault_of : ℕ → Claim → T → Option CertFault} (law : FindsFaults fault_of fault_from) (c : Claim) (t : T) where
    opened : fault_from 1 claims trees ≡ or_else (fault_of (i + 1) (slice_index_or claims i c) (slice_index_or trees i t)) (fault_from (suc (i + 1)) (drop (i + 1) claims) (drop (i + 1) trees))
    opened =
        so_far.same
        ∙ ((λ k. fault_from (i + 1) (drop_more claims i c in_claims k) (drop_more trees i t tree_there k))
        ∙ law.next (i + 1) (slice_index_or claims i c) (drop (i + 1) claims) (slice_index_or trees i t) (drop (i + 1) trees))

    pub claim_next : fault_of (i + 1) (slice_index_or claims i c) (slice_index_or trees i t) ≡ None → ClaimsSoFar misfit_from fault_from claims trees (i + 1)
    claim_next e =
        let up : suc (i + 1) ≡ (i + 1) + 1 = omega arith in
        record {
          same = opened ∙ (or_else_second _ _ e ∙ ap (λ n. fault_from n (drop (i + 1) claims) (drop (i + 1) trees)) up);
          fit = ap (λ n. misfit_from n (drop (i + 1) claims) (drop (i + 1) trees)) (sym up) ∙ others_fit t;
        }

    pub claim_fails : (fault : CertFault) → fault_of (i + 1) (slice_index_or claims i c) (slice_index_or trees i t) ≡ Some fault → fault_from 1 claims trees ≡ Some fault
    claim_fails fault e = opened ∙ or_else_first _ _ fault e

-- past the last claim
pub none_fails : {T : Type 0} {fault_of : ℕ → Claim → T → Option CertFault} {misfit_from fault_from : ℕ → List Claim → List T → Option CertFault} {claims : List Claim} {trees : List T} {i : ℕ} → FindsFaults fault_of fault_from → length claims ≤ i → ClaimsSoFar misfit_from fault_from claims trees i → fault_from 1 claims trees ≡ None
none_fails {fault_from = fault_from} {claims = claims} {trees = trees} {i = i} law le s = s.same ∙ (ap (λ (cs : List Claim). fault_from (i + 1) cs (drop i trees)) (drop_all claims i le) ∙ law.none (i + 1) (drop i trees))

-- what is said of a call that answers Ok
pub if_ok : (r : Result (Unit {0}) CertFault) (P : Type 0) → (r ≡ Ok tt → P) → IfOk r (λ u. P)
if_ok (Ok u) P h = h refl
if_ok (Err e) P h = tt
