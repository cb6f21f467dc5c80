-- The first fault is what it says, whatever the rows and trees are.
use Rattle.std.proofs.Common.{◌≡◌, ℕ, zero, suc, ◌+◌, ◌<◌, ◌≤◌, ◌⊎◌, inl, inr, ◌++◌, Bool, true, false, Option, Some, None, Ok, Err, List, [], ◌∷◌, refl, sym, ap, ◌∙◌, subst, arith, length}
use Rattle.std.specs.Prelude.{◌↔◌, Decides}
use Rattle.std.specs.List.{AllByRecursion, AllZip}
use Rattle.std.proofs.lemmas.Bool.{cases_lt}
use Rattle.tpl_model.proofs.Truths.{true_false}
use Rattle.tpl_model.specs.Graph.{TaskGraph, TaskKind, WhenAll, WhenAny, is_task}
use Rattle.tpl_model.specs.declared.ids.TaskId.{TaskId}
use Rattle.tpl_model.specs.declared.claim.Property.{Property}
use Rattle.tpl_model.specs.Claims.{Claim}
use Rattle.tpl_model.specs.declared.fault.Rule.{Rule}
use Rattle.tpl_model.specs.declared.fault.Rule.TheVariants.{K1, K2, K3, K4, K5, K6}
use Rattle.tpl_model.specs.declared.fault.CertFault.{CertFault}
use Rattle.tpl_model.specs.declared.fault.CertFault.TheVariants.{Shape, NotClosed}
use Rattle.tpl_laws.specs.Verdict.{or_else, unless, past_rule, LeafFault, Breaks, ProvesNot, breaks, at_leaf, no_fault}
use Rattle.tpl_laws.specs.FirstFault.{RowRules, BreaksFirst, LeafRules, Passes, Fails, place, Certificates, LeavesFail, ClaimsFail, HaveShape, FirstMisfits, Misfits, IsFirst}
use Rattle.tpl_laws.proofs.Basics.{some_none}
use Rattle.tpl_laws.proofs.FaultsDecided.{Clears, clear, clear_unless, clear_or_else, clear_means, all_closed}

some_unless : {A : Type 0} (b : Bool) (x y : A) (o : Option A) → unless b x o ≡ Some y → ((b ≡ false) × (x ≡ y)) ⊎ ((b ≡ true) × (o ≡ Some y))
some_unless true x y o e = inr (refl, e)
some_unless false x y o e = inl (refl, cc)

some_or_else : {A : Type 0} (a b : Option A) (y : A) → or_else a b ≡ Some y → (a ≡ Some y) ⊎ ((a ≡ None) × (b ≡ Some y))
some_or_else None b y e = inr (refl, e)
some_or_else (Some x) b y e = inl e

none_or_else : {A : Type 0} (a b : Option A) → or_else a b ≡ None → (a ≡ None) × (b ≡ None)
none_or_else None b e = (refl, e)
none_or_else (Some x) b e = absurd (cc)

none_some : {A : Type 0} (x : A) → None ≡ Some x → ⊥
none_some x e = absurd (cc)

fails : (P : Type 0) (b : Bool) → Decides b P → b ≡ false → P → ⊥
fails P b d e p = true_false (sym (d.1 p) ∙ e)

-- a row: the first test that fails is that of the first rule which is broken
pub past_rule_is : (k : TaskKind) → (past_rule k ≡ K4) ⊎ (past_rule k ≡ K5)
past_rule_is (WhenAll args) = inr refl
past_rule_is (WhenAny args) = inr refl
past_rule_is k = inl refl

pub breaks_first : (r : RowRules) (a b c d e : Bool) → Decides a r.runs → Decides b r.ends → Decides c r.before → Decides d r.past → Decides e r.chain → (r.past_rule ≡ K4) ⊎ (r.past_rule ≡ K5)
    → (rule : Rule) → unless a K1 (unless b K2 (unless c K3 (unless d r.past_rule (unless e K6 None)))) ≡ Some rule → BreaksFirst r rule
breaks_first r a b c d e runs ends before past chain past_is rule is =
    elim (some_unless a K1 rule (unless b K2 (unless c K3 (unless d r.past_rule (unless e K6 None)))) is) [
      | inl q ↦ subst (BreaksFirst r) q.1 (fails r.runs a runs q.0)
      | inr q ↦ let k1 : r.runs = runs.0 q.0 in elim (some_unless b K2 rule (unless c K3 (unless d r.past_rule (unless e K6 None))) q.1) [
        | inl u ↦ subst (BreaksFirst r) u.1 (k1, fails r.ends b ends u.0)
        | inr u ↦ let k2 : r.ends = ends.0 u.0 in elim (some_unless c K3 rule (unless d r.past_rule (unless e K6 None)) u.1) [
          | inl w ↦ subst (BreaksFirst r) w.1 (k1, k2, fails r.before c before w.0)
          | inr w ↦ let k3 : r.before = before.0 w.0 in elim (some_unless d r.past_rule rule (unless e K6 None) w.1) [
            | inl y ↦ let no : r.past → ⊥ = fails r.past d past y.0 in elim past_is [
              | inl k ↦ subst (BreaksFirst r) (sym k ∙ y.1) (k1, k2, k3, no, k)
              | inr k ↦ subst (BreaksFirst r) (sym k ∙ y.1) (k1, k2, k3, no, k)
            ]
            | inr y ↦ let k4 : r.past = past.0 y.0 in elim (some_unless e K6 rule None y.1) [
              | inl z ↦ subst (BreaksFirst r) z.1 (k1, k2, k3, k4, fails r.chain e chain z.0)
              | inr z ↦ absurd (none_some rule z.1)
            ]
          ]
        ]
      ]
    ]

some_breaks : (t : ℕ) (o : Option Rule) (f : LeafFault) → breaks t o ≡ Some f → (r : Rule) × (o ≡ Some r) × (Breaks t r ≡ f)
some_breaks t None f e = absurd (cc)
some_breaks t (Some r) f e = (r, refl, cc)

none_breaks : (t : ℕ) (o : Option Rule) → breaks t o ≡ None → o ≡ None
none_breaks t None e = refl
none_breaks t (Some r) e = absurd (cc)

-- tests of a leaf: which rule a row breaks first, which row, of n from t on, is the first that breaks one, and whether
-- the claim is proved
pub record LeafTests (g : TaskGraph) (r : LeafRules) : Type 0 where
  pub broken : ℕ → Option Rule
  pub closed : (t : ℕ) → Clears (broken t) (r.IsClosed t)
  pub is_broken : (t : ℕ) (rule : Rule) → broken t ≡ Some rule → r.BreaksRule t rule
  pub first : ℕ → ℕ → Option LeafFault
  pub first_of_none : (t : ℕ) → first t zero ≡ None
  pub first_of_more : (t n : ℕ) → first t (suc n) ≡ or_else (breaks t (broken t)) (first (suc t) n)
  pub proves : Bool
  pub proved : Decides proves r.Proves

-- the first fault of the leaf
abbrev pub tested : (g : TaskGraph) (r : LeafRules) → LeafTests g r → Option LeafFault
tested g r tests = or_else (tests.first 0 (length g.tasks)) (unless tests.proves ProvesNot None)

module _ (g : TaskGraph) (r : LeafRules) (tests : LeafTests g r) where
  is_clear : Clears (tests.first 0 (length g.tasks)) ((t : ℕ) → is_task g t → r.IsClosed t)
  is_clear = all_closed r.IsClosed tests.broken tests.first tests.closed tests.first_of_none tests.first_of_more (length g.tasks)

  -- no fault is found just where the leaf is closed and proves the claim
  pub leaf_clear : Clears (tested g r tests) (Passes g r)
  leaf_clear =
      let Closed = (t : ℕ) → is_task g t → r.IsClosed t in
      clear_means (Closed × (r.Proves × Unit {0})) (Passes g r) (tested g r tests)
      (clear_or_else Closed (r.Proves × Unit {0}) (tests.first 0 (length g.tasks)) (unless tests.proves ProvesNot None) is_clear (clear_unless r.Proves (Unit {0}) tests.proves ProvesNot None tests.proved clear))
      (λ e. (e.0, e.1.0))
      (λ e. (e.0, (e.1, tt)))

  record FirstBreaks (t n : ℕ) (f : LeafFault) : Type 0 where
    pub number : ℕ
    pub rule : Rule
    pub is : Breaks number rule ≡ f
    pub from : t ≤ number
    pub to : number < t + n
    pub earlier : (x : ℕ) → t ≤ x → x < number → r.IsClosed x
    pub breaks : r.BreaksRule number rule

  first_breaks : (t n : ℕ) (f : LeafFault) → tests.first t n ≡ Some f → FirstBreaks t n f
  first_breaks t zero f e = absurd (none_some f (sym (tests.first_of_none t) ∙ e))
  first_breaks t (suc n) f e =
      elim (some_or_else (breaks t (tests.broken t)) (tests.first (suc t) n) f (sym (tests.first_of_more t n) ∙ e)) [
        | inl q ↦
            let s = some_breaks t (tests.broken t) f q in
            record { number = t; rule = s.0; is = s.2; from = omega arith; to = omega arith; earlier = λ x a b. absurd (omega arith); breaks = tests.is_broken t s.0 s.1 }
        | inr q ↦
            let c : r.IsClosed t = (tests.closed t).0 (none_breaks t (tests.broken t) q.0) in
            let s = first_breaks (suc t) n f q.1 in
            record {
              number = s.number;
              rule = s.rule;
              is = s.is;
              from = let a : suc t ≤ s.number = s.from in omega arith;
              to = let a : s.number < suc t + n = s.to in omega arith;
              earlier = λ x a b. elim (cases_lt t x) [ inl lt ↦ s.earlier x (omega arith) b | inr ge ↦ let z : t ≡ x = omega arith in subst r.IsClosed z c ];
              breaks = s.breaks;
            }
      ]

  leaf_fails : (f : LeafFault) → tested g r tests ≡ Some f → Fails g r f
  leaf_fails f e =
      elim (some_or_else (tests.first 0 (length g.tasks)) (unless tests.proves ProvesNot None) f e) [
        | inl q ↦
            let s = first_breaks 0 (length g.tasks) f q in
            let a : s.number < 0 + length g.tasks = s.to in
            subst (Fails g r) s.is (omega arith, (λ x b. s.earlier x (omega arith) b), s.breaks)
        | inr q ↦ elim (some_unless tests.proves ProvesNot f None q.1) [
          | inl u ↦ subst (Fails g r) u.1 (is_clear.0 q.0, fails r.Proves tests.proves tests.proved u.0)
          | inr u ↦ absurd (none_some f u.1)
        ]
      ]

-- the leaves of a tree, one after another
abbrev pub leaves_fault : {B : Type 0} → (B → Option LeafFault) → ℕ → ℕ → List B → Option CertFault
leaves_fault fault c n [] = None
leaves_fault fault c n (b ∷ bs) = or_else (at_leaf c n (fault b)) (leaves_fault fault c (suc n) bs)

or_else_joined : {A : Type 0} (x y z : Option A) → or_else (or_else x y) z ≡ or_else x (or_else y z)
or_else_joined None y z = refl
or_else_joined (Some x) y z = refl

leaves_joined : {B : Type 0} (fault : B → Option LeafFault) (c n m : ℕ) (xs ys : List B) → m ≡ n + length xs → leaves_fault fault c n (xs ++ ys) ≡ or_else (leaves_fault fault c n xs) (leaves_fault fault c m ys)
leaves_joined fault c n m [] ys number = let same : n ≡ m = omega (arith, number) in ap (λ z. leaves_fault fault c z ys) same
leaves_joined fault c n m (x ∷ xs) ys number =
    ap (or_else (at_leaf c n (fault x))) (leaves_joined fault c (suc n) m xs ys (omega (arith, number)))
    ∙ sym (or_else_joined (at_leaf c n (fault x)) (leaves_fault fault c (suc n) xs) (leaves_fault fault c m ys))

-- what two parts of a tree give, their leaves give together
pub parts_joined : {B : Type 0} (fault : B → Option LeafFault) (c n m : ℕ) (xs ys : List B) (x y : Option CertFault) → m ≡ n + length xs → x ≡ leaves_fault fault c n xs → y ≡ leaves_fault fault c m ys → or_else x y ≡ leaves_fault fault c n (xs ++ ys)
parts_joined fault c n m xs ys x y number e f = ap (λ z. or_else z y) e ∙ ap (or_else (leaves_fault fault c n xs)) f ∙ sym (leaves_joined fault c n m xs ys number)

pub one_leaf : {B : Type 0} (fault : B → Option LeafFault) (c n : ℕ) (b : B) → at_leaf c n (fault b) ≡ leaves_fault fault c n (b ∷ [])
one_leaf fault c n b = at_last (at_leaf c n (fault b))
  where
    at_last : (o : Option CertFault) → o ≡ or_else o None
    at_last None = refl
    at_last (Some x) = refl

some_leaf : (c n : ℕ) (o : Option LeafFault) (fault : CertFault) → at_leaf c n o ≡ Some fault → (f : LeafFault) × (o ≡ Some f) × (place c n f ≡ fault)
some_leaf c n None fault e = absurd (cc)
some_leaf c n (Some (Breaks t r)) fault e = (Breaks t r, refl, cc)
some_leaf c n (Some ProvesNot) fault e = (ProvesNot, refl, cc)

clear_leaf : (c n : ℕ) (P : Type 0) (o : Option LeafFault) → Clears o P → Clears (at_leaf c n o) P
clear_leaf c n P None d = (λ e. d.0 refl, λ p. refl)
clear_leaf c n P (Some f) d = (λ e. absurd (none_some (place c n f) (sym e ∙ at_place f)), λ p. some_none f (d.1 p))
  where
    at_place : (f : LeafFault) → at_leaf c n (Some f) ≡ Some (place c n f)
    at_place (Breaks t r) = refl
    at_place ProvesNot = refl

module _ {B : Type 0} (g : TaskGraph) (rules : B → LeafRules) (tests : (b : B) → LeafTests g (rules b)) (c : ℕ) where
  abbrev fault : B → Option LeafFault
  fault b = tested g (rules b) (tests b)

  passes : (n : ℕ) (b : B) → Clears (at_leaf c n (fault b)) (Passes g (rules b))
  passes n b = clear_leaf c n (Passes g (rules b)) (fault b) (leaf_clear g (rules b) (tests b))

  pub leaves_clear : (n : ℕ) (bs : List B) → Clears (leaves_fault fault c n bs) (AllByRecursion (λ b. Passes g (rules b)) bs)
  leaves_clear n [] = (λ e. tt, λ u. refl)
  leaves_clear n (b ∷ bs) =
      clear_or_else (Passes g (rules b)) (AllByRecursion (λ b. Passes g (rules b)) bs) (at_leaf c n (fault b)) (leaves_fault fault c (suc n) bs) (passes n b) (leaves_clear (suc n) bs)

  one_fails : (n : ℕ) (bs : List B) (f : CertFault) → leaves_fault fault c n bs ≡ Some f → LeavesFail g rules c n bs f
  one_fails n [] f e = absurd (none_some f e)
  one_fails n (b ∷ bs) f e =
      elim (some_or_else (at_leaf c n (fault b)) (leaves_fault fault c (suc n) bs) f e) [
        | inl q ↦
            let s = some_leaf c n (fault b) f q in
            let number : n ≡ n + 0 = omega arith in
            record {
              earlier = [];
              branch = b;
              later = bs;
              list = refl;
              passed = tt;
              why = s.0;
              fails = leaf_fails g (rules b) (tests b) s.0 s.1;
              at = sym s.2 ∙ ap (λ z. place c z s.0) number;
            }
        | inr q ↦
            let r = one_fails (suc n) bs f q.1 in
            let number : suc n + length r.earlier ≡ n + suc (length r.earlier) = omega arith in
            record {
              earlier = b ∷ r.earlier;
              branch = r.branch;
              later = r.later;
              list = ap (λ z. b ∷ z) r.list;
              passed = ((passes n b).0 q.0, r.passed);
              why = r.why;
              fails = r.fails;
              at = r.at ∙ ap (λ z. place c z r.why) number;
            }
      ]

-- tests of certificates: of shapes and of leaves, which claim from the n-th on has no tree of its shape, which fault a
-- tree has, and which the claims have
pub record Tests (g : TaskGraph) (c : Certificates) : Type 0 where
  pub fits : c.Tree → Bool
  pub shaped : (tree : c.Tree) → Decides (fits tree) (c.HasShape tree)
  pub misfit : ℕ → List Claim → List c.Tree → Option CertFault
  pub misfit_of_none : (n : ℕ) → misfit n [] [] ≡ None
  pub misfit_of_tree : (n : ℕ) (tree : c.Tree) (trees : List c.Tree) → misfit n [] (tree ∷ trees) ≡ Some (Shape n)
  pub misfit_of_claim : (n : ℕ) (claim : Claim) (claims : List Claim) → misfit n (claim ∷ claims) [] ≡ Some (Shape n)
  pub misfit_of_both : (n : ℕ) (claim : Claim) (claims : List Claim) (tree : c.Tree) (trees : List c.Tree) → misfit n (claim ∷ claims) (tree ∷ trees) ≡ unless (fits tree) (Shape n) (misfit (suc n) claims trees)
  pub leaf : (p : Property TaskId) (b : c.Branch) → LeafTests g (c.rules p b)
  pub tree : ℕ → Claim → c.Tree → Option CertFault
  pub tree_is : (n : ℕ) (claim : Claim) (t : c.Tree) → tree n claim t ≡ leaves_fault (λ b. tested g (c.rules claim.body b) (leaf claim.body b)) n 1 (c.leaves_for claim t)
  pub claims : ℕ → List Claim → List c.Tree → Option CertFault
  pub claims_of_none : (n : ℕ) → claims n [] [] ≡ None
  pub claims_of_more : (n : ℕ) (claim : Claim) (more : List Claim) (t : c.Tree) (trees : List c.Tree) → claims n (claim ∷ more) (t ∷ trees) ≡ or_else (tree n claim t) (claims (suc n) more trees)
  pub accepts : (claim : Claim) (t : c.Tree) → c.HasShape t → AllByRecursion (λ b. Passes g (c.rules claim.body b)) (c.leaves_for claim t) → c.Accepts claim t
  pub accepted : (claim : Claim) (t : c.Tree) → c.Accepts claim t → c.HasShape t × AllByRecursion (λ b. Passes g (c.rules claim.body b)) (c.leaves_for claim t)

module _ (g : TaskGraph) (c : Certificates) (tests : Tests g c) where
  tree_clear : (n : ℕ) (claim : Claim) (tree : c.Tree) → c.HasShape tree → Clears (tests.tree n claim tree) (c.Accepts claim tree)
  tree_clear n claim tree shape =
      let clears = leaves_clear g (c.rules claim.body) (tests.leaf claim.body) n 1 (c.leaves_for claim tree) in
      (λ e. tests.accepts claim tree shape (clears.0 (sym (tests.tree_is n claim tree) ∙ e)), λ a. tests.tree_is n claim tree ∙ clears.1 (tests.accepted claim tree a).1)

  tree_fails : (n : ℕ) (claim : Claim) (tree : c.Tree) (fault : CertFault) → tests.tree n claim tree ≡ Some fault → LeavesFail g (c.rules claim.body) n 1 (c.leaves_for claim tree) fault
  tree_fails n claim tree fault e = one_fails g (c.rules claim.body) (tests.leaf claim.body) n 1 (c.leaves_for claim tree) fault (sym (tests.tree_is n claim tree) ∙ e)

  claims_fail : (n : ℕ) (claims : List Claim) (trees : List c.Tree) (fault : CertFault) → HaveShape c.HasShape claims trees → tests.claims n claims trees ≡ Some fault → ClaimsFail g c n claims trees fault
  claims_fail n [] [] fault shapes e = absurd (none_some fault (sym (tests.claims_of_none n) ∙ e))
  claims_fail n [] (tree ∷ trees) fault shapes e = absurd shapes
  claims_fail n (claim ∷ claims) [] fault shapes e = absurd shapes
  claims_fail n (claim ∷ claims) (tree ∷ trees) fault shapes e =
      elim (some_or_else (tests.tree n claim tree) (tests.claims (suc n) claims trees) fault (sym (tests.claims_of_more n claim claims tree trees) ∙ e)) [
        | inl q ↦
            let number : n ≡ n + 0 = omega arith in
            record {
              earlier_claims = [];
              claim = claim;
              later_claims = claims;
              earlier_trees = [];
              tree = tree;
              later_trees = trees;
              claims_are = refl;
              trees_are = refl;
              accepted = tt;
              fails = subst (λ z. LeavesFail g (c.rules claim.body) z 1 (c.leaves_for claim tree) fault) number (tree_fails n claim tree fault q);
            }
        | inr q ↦
            let r = claims_fail (suc n) claims trees fault shapes.1 q.1 in
            let number : suc n + length r.earlier_claims ≡ n + suc (length r.earlier_claims) = omega arith in
            record {
              earlier_claims = claim ∷ r.earlier_claims;
              claim = r.claim;
              later_claims = r.later_claims;
              earlier_trees = tree ∷ r.earlier_trees;
              tree = r.tree;
              later_trees = r.later_trees;
              claims_are = ap (λ z. claim ∷ z) r.claims_are;
              trees_are = ap (λ z. tree ∷ z) r.trees_are;
              accepted = ((tree_clear n claim tree shapes.0).0 q.0, r.accepted);
              fails = subst (λ z. LeavesFail g (c.rules r.claim.body) z 1 (c.leaves_for r.claim r.tree) fault) number r.fails;
            }
      ]

  -- shapes
  shapes_clear : (n : ℕ) (claims : List Claim) (trees : List c.Tree) → Clears (tests.misfit n claims trees) (HaveShape c.HasShape claims trees)
  shapes_clear n [] [] = (λ e. tt, λ u. tests.misfit_of_none n)
  shapes_clear n [] (tree ∷ trees) = (λ e. none_some (Shape n) (sym e ∙ tests.misfit_of_tree n tree trees), λ f. absurd f)
  shapes_clear n (claim ∷ claims) [] = (λ e. none_some (Shape n) (sym e ∙ tests.misfit_of_claim n claim claims), λ f. absurd f)
  shapes_clear n (claim ∷ claims) (tree ∷ trees) =
      subst (λ z. Clears z (c.HasShape tree × HaveShape c.HasShape claims trees)) (sym (tests.misfit_of_both n claim claims tree trees))
      (clear_unless (c.HasShape tree) (HaveShape c.HasShape claims trees) (tests.fits tree) (Shape n) (tests.misfit (suc n) claims trees) (tests.shaped tree) (shapes_clear (suc n) claims trees))

  misfits_here : (n : ℕ) (claims : List Claim) (trees : List c.Tree) (fault : CertFault) → FirstMisfits c.HasShape claims trees → Shape n ≡ fault → Misfits c.HasShape n claims trees fault
  misfits_here n claims trees fault f e =
      let number : n ≡ n + 0 = omega arith in
      record { earlier_claims = []; later_claims = claims; earlier_trees = []; later_trees = trees; claims_are = refl; trees_are = refl; shaped = tt; misfits = f; at = sym e ∙ ap Shape number }

  the_shape : (n : ℕ) (o : Option CertFault) (fault : CertFault) → o ≡ Some (Shape n) → o ≡ Some fault → Shape n ≡ fault
  the_shape n o fault e f = let q : Some (Shape n) ≡ Some fault = sym e ∙ f in cc

  misfit_is : (n : ℕ) (claims : List Claim) (trees : List c.Tree) (fault : CertFault) → tests.misfit n claims trees ≡ Some fault → Misfits c.HasShape n claims trees fault
  misfit_is n [] [] fault e = absurd (none_some fault (sym (tests.misfit_of_none n) ∙ e))
  misfit_is n [] (tree ∷ trees) fault e = misfits_here n [] (tree ∷ trees) fault tt (the_shape n (tests.misfit n [] (tree ∷ trees)) fault (tests.misfit_of_tree n tree trees) e)
  misfit_is n (claim ∷ claims) [] fault e = misfits_here n (claim ∷ claims) [] fault tt (the_shape n (tests.misfit n (claim ∷ claims) []) fault (tests.misfit_of_claim n claim claims) e)
  misfit_is n (claim ∷ claims) (tree ∷ trees) fault e =
      elim (some_unless (tests.fits tree) (Shape n) fault (tests.misfit (suc n) claims trees) (sym (tests.misfit_of_both n claim claims tree trees) ∙ e)) [
        | inl q ↦ misfits_here n (claim ∷ claims) (tree ∷ trees) fault (fails (c.HasShape tree) (tests.fits tree) (tests.shaped tree) q.0) q.1
        | inr q ↦
            let r = misfit_is (suc n) claims trees fault q.1 in
            let number : suc n + length r.earlier_claims ≡ n + suc (length r.earlier_claims) = omega arith in
            record {
              earlier_claims = claim ∷ r.earlier_claims;
              later_claims = r.later_claims;
              earlier_trees = tree ∷ r.earlier_trees;
              later_trees = r.later_trees;
              claims_are = ap (λ z. claim ∷ z) r.claims_are;
              trees_are = ap (λ z. tree ∷ z) r.trees_are;
              shaped = ((tests.shaped tree).0 q.0, r.shaped);
              misfits = r.misfits;
              at = r.at ∙ ap Shape number;
            }
      ]

  -- what these tests find is the first fault
  pub finds_first : (claims : List Claim) (trees : List c.Tree) (fault : CertFault) → no_fault (or_else (tests.misfit 1 claims trees) (tests.claims 1 claims trees)) ≡ Err fault → IsFirst g c claims trees fault
  finds_first claims trees fault e =
      elim (some_or_else (tests.misfit 1 claims trees) (tests.claims 1 claims trees) fault (err_some (or_else (tests.misfit 1 claims trees) (tests.claims 1 claims trees)) fault e)) [
        | inl q ↦ inl (misfit_is 1 claims trees fault q)
        | inr q ↦ let shapes = (shapes_clear 1 claims trees).0 q.0 in inr (shapes, claims_fail 1 claims trees fault shapes q.1)
      ]
    where
      err_some : (o : Option CertFault) (f : CertFault) → no_fault o ≡ Err f → o ≡ Some f
      err_some None f e = absurd (cc)
      err_some (Some x) f e = let q : x ≡ f = cc in ap Some q

  claims_clear : (n : ℕ) (claims : List Claim) (trees : List c.Tree) → HaveShape c.HasShape claims trees → Clears (tests.claims n claims trees) (AllZip c.Accepts claims trees)
  claims_clear n [] [] shapes = (λ e. tt, λ u. tests.claims_of_none n)
  claims_clear n [] (tree ∷ trees) shapes = absurd shapes
  claims_clear n (claim ∷ claims) [] shapes = absurd shapes
  claims_clear n (claim ∷ claims) (tree ∷ trees) shapes =
      subst (λ z. Clears z (c.Accepts claim tree × AllZip c.Accepts claims trees)) (sym (tests.claims_of_more n claim claims tree trees))
      (clear_or_else (c.Accepts claim tree) (AllZip c.Accepts claims trees) (tests.tree n claim tree) (tests.claims (suc n) claims trees) (tree_clear n claim tree shapes.0) (claims_clear (suc n) claims trees shapes.1))

  all_shaped : (claims : List Claim) (trees : List c.Tree) → AllZip c.Accepts claims trees → HaveShape c.HasShape claims trees
  all_shaped [] [] a = tt
  all_shaped [] (tree ∷ trees) a = a
  all_shaped (claim ∷ claims) [] a = a
  all_shaped (claim ∷ claims) (tree ∷ trees) a = ((tests.accepted claim tree a.0).0, all_shaped claims trees a.1)

  -- they find none just where each tree is accepted
  pub finds_none : (claims : List Claim) (trees : List c.Tree) → (no_fault (or_else (tests.misfit 1 claims trees) (tests.claims 1 claims trees)) ≡ Ok tt) ↔ AllZip c.Accepts claims trees
  finds_none claims trees = (
    λ e.
        let q = none_or_else (tests.misfit 1 claims trees) (tests.claims 1 claims trees) (ok_none (or_else (tests.misfit 1 claims trees) (tests.claims 1 claims trees)) e) in
        (claims_clear 1 claims trees ((shapes_clear 1 claims trees).0 q.0)).0 q.1,
    λ a.
        let shapes = all_shaped claims trees a in
        ap no_fault ((clear_or_else (HaveShape c.HasShape claims trees) (AllZip c.Accepts claims trees) (tests.misfit 1 claims trees) (tests.claims 1 claims trees) (shapes_clear 1 claims trees) (claims_clear 1 claims trees shapes)).1 (shapes, a)),
  )
    where
      ok_none : (o : Option CertFault) → no_fault o ≡ Ok tt → o ≡ None
      ok_none None e = refl
      ok_none (Some x) e = absurd (cc)

-- the first fault names a task of the graph
fault_names : (g : TaskGraph) (r : LeafRules) (why : LeafFault) (claim leaf c n : ℕ) (t : TaskId) (rule : Rule) → Fails g r why → NotClosed claim leaf t rule ≡ place c n why → is_task g t.0
fault_names g r (Breaks s q) claim leaf c n t rule f e = let same : record { 0 = s } ≡ t = cc in subst (λ (z : TaskId). is_task g z.0) same f.0
fault_names g r ProvesNot claim leaf c n t rule f e = absurd (cc)

pub first_names : (g : TaskGraph) (c : Certificates) (claims : List Claim) (trees : List c.Tree) (claim leaf : ℕ) (t : TaskId) (rule : Rule) → IsFirst g c claims trees (NotClosed claim leaf t rule) → is_task g t.0
first_names g c claims trees claim leaf t rule (inl f) = no_shape f.at
  where
    no_shape : {n : ℕ} → NotClosed claim leaf t rule ≡ Shape n → is_task g t.0
    no_shape e = absurd (cc)
first_names g c claims trees claim leaf t rule (inr f) =
    let one = f.1.fails in fault_names g (c.rules f.1.claim.body one.branch) one.why claim leaf _ _ t rule one.fails one.at
