-- Claims and their trees, one by one.
use Rattle.std.proofs.Common.{◌≡◌, ℕ, zero, suc, ◌+◌, ◌<◌, ◌≤◌, ◌&&◌, Bool, true, false, Option, Some, List, [], ◌∷◌, drop, length, refl, sym, ◌∙◌, slice_index_or, inl, inr, min, arith}
use Rattle.std.proofs.lemmas.Bool.{cases_lt}
use Rattle.std.proofs.lemmas.List.{drop_more, length-drop}
use Rattle.tpl_model.specs.Graph.{TaskGraph}
use Rattle.tpl_model.specs.Claims.{Claim}
use Rattle.tpl_model.specs.Certificate.{Row, Tree, OnInput, OnEnd, OnWinner, RowsLeaf, LeastLeaf}
use Rattle.tpl_model.specs.declared.fault.CertFault.{CertFault}
use Rattle.tpl_model.specs.declared.fault.CertFault.TheVariants.{Shape}
use Rattle.tpl_model.specs.declared.claim.Property.TheVariants.{Never}
use Rattle.std.specs.Prelude.{◌↔◌, IsTrue}
use Rattle.std.proofs.lemmas.Bool.{and_from}
use Rattle.tpl_model.proofs.Truths.{and_first, and_second, same_tests}
use Rattle.tpl_laws.specs.RowTests.{is_none}
use Rattle.tpl_laws.proofs.PlainFaults.{none_decided}
use Rattle.tpl_trees.specs.Heights.{height}
use Rattle.tpl_laws.specs.Verdict.{unless, fits, misfit, leaves}
use Rattle.tpl_checker.proofs.Basics.{drop_all}

-- a test of claims with their trees, which have to fit: the first claim without a tree that does, or tree without a claim
pub record FindsMisfits {T : Type 0} (fits_it : T → Bool) (misfit_from : ℕ → List Claim → List T → Option CertFault) : Type 0 where
  pub no_tree : (n : ℕ) (c : Claim) (cs : List Claim) → misfit_from n (c ∷ cs) [] ≡ Some (Shape n)
  pub no_claim : (n : ℕ) (t : T) (ts : List T) → misfit_from n [] (t ∷ ts) ≡ Some (Shape n)
  pub next : (n : ℕ) (c : Claim) (cs : List Claim) (t : T) (ts : List T) → misfit_from n (c ∷ cs) (t ∷ ts) ≡ unless (fits_it t) (Shape n) (misfit_from (suc n) cs ts)

pub finds_misfits : (g : TaskGraph) → FindsMisfits (fits g) (misfit g)
finds_misfits g = record { no_tree = λ n c cs. refl; no_claim = λ n t ts. refl; next = λ n c cs t ts. refl }

-- the first i claims and trees fit
pub record FitsSoFar {T : Type 0} (misfit_from : ℕ → List Claim → List T → Option CertFault) (claims : List Claim) (trees : List T) (i : ℕ) : Type 0 where
  pub claims_left : i ≤ length claims
  pub trees_left : i ≤ length trees
  pub same : misfit_from 1 claims trees ≡ misfit_from (i + 1) (drop i claims) (drop i trees)

-- a claim to stand past the last one
abbrev pub no_one : Claim
no_one = record { given = []; body = Never (record { 0 = 0 }) }

module _ {T : Type 0} {fits_it : T → Bool} {misfit_from : ℕ → List Claim → List T → Option CertFault} {claims : List Claim} {trees : List T} {i : ℕ} (law : FindsMisfits fits_it misfit_from) (so_far : FitsSoFar misfit_from claims trees i) where
  at_both : (t : T) → i < length claims → i < length trees → (b : Bool) → fits_it (slice_index_or trees i t) ≡ b → misfit_from 1 claims trees ≡ unless b (Shape (i + 1)) (misfit_from ((i + 1) + 1) (drop (i + 1) claims) (drop (i + 1) trees))
  at_both t in_claims in_trees b e =
      let up : suc (i + 1) ≡ (i + 1) + 1 = omega arith in
      so_far.same
      ∙ ((λ k. misfit_from (i + 1) (drop_more claims i no_one in_claims k) (drop_more trees i t in_trees k))
      ∙ (law.next (i + 1) (slice_index_or claims i no_one) (drop (i + 1) claims) (slice_index_or trees i t) (drop (i + 1) trees)
      ∙ (λ k. unless (e k) (Shape (i + 1)) (misfit_from (up k) (drop (i + 1) claims) (drop (i + 1) trees)))))

  pub fits_next : (t : T) → i < min (length claims) (length trees) → fits_it (slice_index_or trees i t) ≡ true → FitsSoFar misfit_from claims trees (i + 1)
  fits_next t lt e = record { claims_left = omega arith; trees_left = omega arith; same = at_both t (omega arith) (omega arith) true e }

  pub misfits_here : (t : T) → i < min (length claims) (length trees) → fits_it (slice_index_or trees i t) ≡ false → Some (Shape (i + 1)) ≡ misfit_from 1 claims trees
  misfits_here t lt e = sym (at_both t (omega arith) (omega arith) false e)

  -- at the end of one list
  tree_missing : i < length claims → length trees ≤ i → Some (Shape (i + 1)) ≡ misfit_from 1 claims trees
  tree_missing lt le =
      sym (so_far.same ∙ ((λ k. misfit_from (i + 1) (drop_more claims i no_one lt k) (drop_all trees i le k)) ∙ law.no_tree (i + 1) (slice_index_or claims i no_one) (drop (i + 1) claims)))

  claim_missing : (ts : List T) → drop i trees ≡ ts → length claims ≤ i → 0 < length ts → Some (Shape (i + 1)) ≡ misfit_from 1 claims trees
  claim_missing [] e le some = absurd (omega arith)
  claim_missing (t ∷ ts) e le some = sym (so_far.same ∙ ((λ k. misfit_from (i + 1) (drop_all claims i le k) (e k)) ∙ law.no_claim (i + 1) t ts))

  -- the number of both lists is that of the shorter one
  pub one_missing : i ≡ min (length claims) (length trees) → (length claims ≡ length trees → ⊥) → Some (Shape (i + 1)) ≡ misfit_from 1 claims trees
  one_missing e other = elim (cases_lt i (length claims)) [
    | inl lt ↦ tree_missing lt (omega arith)
    | inr le ↦ elim (cases_lt i (length trees)) [ inl lt ↦ claim_missing (drop i trees) refl le (simp length-drop (omega arith)) | inr le' ↦ absurd (other (omega (arith, so_far.claims_left, so_far.trees_left))) ]
  ]

-- a row is tested by its tokens
pub plain_tested : (b : Bool) (r : Row) → IsTrue b ↔ ((r.asked ≡ []) × (r.asks ≡ [])) → b ≡ (is_none r.asked && is_none r.asks)
plain_tested b r h =
    same_tests b (is_none r.asked && is_none r.asks)
    (λ e. and_from (is_none r.asked) (is_none r.asks) ((none_decided r.asked).1 (h.0 e).0) ((none_decided r.asks).1 (h.0 e).1))
    (λ e. h.1 ((none_decided r.asked).0 (and_first (is_none r.asked) (is_none r.asks) e), (none_decided r.asks).0 (and_second (is_none r.asked) (is_none r.asks) e)))

-- the most leaves of a tree with this many splits on a path
abbrev pub most_leaves : ℕ → ℕ
most_leaves zero = 1
most_leaves (suc n) = most_leaves n + most_leaves n + most_leaves n

pub one_leaf : (n : ℕ) → 1 ≤ most_leaves n
one_leaf zero = omega arith
one_leaf (suc n) = omega (arith, one_leaf n)

leaves_within : (n : ℕ) (t : Tree) → height t ≤ n → leaves t ≤ most_leaves n
leaves_within n (RowsLeaf rows) le = one_leaf n
leaves_within n LeastLeaf le = one_leaf n
leaves_within zero (OnInput i a b) le = absurd (omega arith)
leaves_within zero (OnEnd t a b c) le = absurd (omega arith)
leaves_within zero (OnWinner m x a b) le = absurd (omega arith)
leaves_within (suc n) (OnWinner m x a b) le = omega (arith, leaves_within n a (omega arith), leaves_within n b (omega arith))
leaves_within (suc n) (OnInput i a b) le = omega (arith, leaves_within n a (omega arith), leaves_within n b (omega arith))
leaves_within (suc n) (OnEnd t a b c) le = omega (arith, leaves_within n a (omega arith), leaves_within n b (omega arith), leaves_within n c (omega arith))

pub at_most_729_leaves : (t : Tree) → height t ≤ 6 → leaves t ≤ 729
at_most_729_leaves t le = leaves_within 6 t le
