-- A certificate has one first fault at most, whatever its rows and trees are: of two places with nothing wrong before
-- them, neither is before the other.
use Rattle.std.proofs.Common.{◌≡◌, ℕ, suc, ◌+◌, inl, inr, ◌++◌, List, [], ◌∷◌, refl, sym, ap, ◌∙◌, subst, arith, length}
use Rattle.std.specs.List.{AllByRecursion, AllZip}
use Rattle.std.proofs.lemmas.Bool.{cases_lt}
use Rattle.tpl_model.specs.Graph.{TaskGraph}
use Rattle.tpl_model.specs.declared.ids.TaskId.{TaskId}
use Rattle.tpl_model.specs.declared.claim.Property.{Property}
use Rattle.tpl_model.specs.Claims.{Claim}
use Rattle.tpl_model.specs.declared.fault.Rule.{Rule}
use Rattle.tpl_model.specs.declared.fault.Rule.TheVariants.{K1, K2, K3, K4, K5, K6}
use Rattle.tpl_model.specs.declared.fault.CertFault.{CertFault}
use Rattle.tpl_model.specs.declared.fault.CertFault.TheVariants.{Shape}
use Rattle.tpl_laws.specs.Verdict.{LeafFault, Breaks, ProvesNot}
use Rattle.tpl_laws.specs.FirstFault.{RowRules, BreaksFirst, LeafRules, Passes, Fails, place, Certificates, LeavesFail, ClaimsFail, HaveShape, FirstMisfits, Misfits, IsFirst}

-- a row
pub one_rule : (s : RowRules) (q r : Rule) → BreaksFirst s q → BreaksFirst s r → q ≡ r
one_rule s K1 K1 a b = refl
one_rule s K1 r a b = absurd (a b.0)
one_rule s q K1 a b = absurd (b a.0)
one_rule s K2 K2 a b = refl
one_rule s K2 r a b = absurd (a.1 b.1)
one_rule s q K2 a b = absurd (b.1 a.1)
one_rule s K3 K3 a b = refl
one_rule s K3 r a b = absurd (a.2 b.2)
one_rule s q K3 a b = absurd (b.2 a.2)
one_rule s K4 K4 a b = refl
one_rule s K4 K5 a b = sym a.4 ∙ b.4
one_rule s K4 K6 a b = absurd (a.3 b.3)
one_rule s K5 K4 a b = sym a.4 ∙ b.4
one_rule s K5 K5 a b = refl
one_rule s K5 K6 a b = absurd (a.3 b.3)
one_rule s K6 K6 a b = refl
one_rule s K6 r a b = absurd (b.3 a.3)

-- the row keeps each rule
abbrev pub Keeps : RowRules → Type 0
Keeps s = s.runs × s.ends × s.before × s.past × s.chain

pub keeps_or_breaks : (s : RowRules) (r : Rule) → Keeps s → BreaksFirst s r → ⊥
keeps_or_breaks s K1 k b = b k.0
keeps_or_breaks s K2 k b = b.1 k.1
keeps_or_breaks s K3 k b = b.2 k.2
keeps_or_breaks s K4 k b = b.3 k.3
keeps_or_breaks s K5 k b = b.3 k.3
keeps_or_breaks s K6 k b = b.4 k.4

-- a row that is closed breaks no rule, and one that breaks a rule breaks no other first
pub record AreSound (r : LeafRules) : Type 0 where
  pub keeps : (t : ℕ) (rule : Rule) → r.IsClosed t → r.BreaksRule t rule → ⊥
  pub same : (t : ℕ) (one other : Rule) → r.BreaksRule t one → r.BreaksRule t other → one ≡ other

-- a leaf
fails_or_passes : (g : TaskGraph) (r : LeafRules) (why : LeafFault) → AreSound r → Fails g r why → Passes g r → ⊥
fails_or_passes g r (Breaks t rule) s f c = s.keeps t rule (c.0 t f.0) f.2
fails_or_passes g r ProvesNot s f c = f.1 c.1

one_why : (g : TaskGraph) (r : LeafRules) (v w : LeafFault) → AreSound r → Fails g r v → Fails g r w → v ≡ w
one_why g r (Breaks s q) (Breaks t rule) sound f h =
    elim (cases_lt s t) [
      | inl less ↦ absurd (sound.keeps s q (h.1 s less) f.2)
      | inr ge ↦ elim (cases_lt t s) [
        | inl less ↦ absurd (sound.keeps t rule (f.1 t less) h.2)
        | inr le ↦
            let same : s ≡ t = omega arith in
            ap (λ z. Breaks z q) same ∙ ap (Breaks t) (sound.same t q rule (subst (λ z. r.BreaksRule z q) same f.2) h.2)
      ]
    ]
one_why g r (Breaks t rule) ProvesNot sound f h = absurd (sound.keeps t rule (h.0 t f.0) f.2)
one_why g r ProvesNot (Breaks t rule) sound f h = absurd (sound.keeps t rule (f.0 t h.0) h.2)
one_why g r ProvesNot ProvesNot sound f h = refl

-- the leaves of two parts of a tree
pub all_joined : {B : Type 0} (P : B → Type 0) (xs ys : List B) → AllByRecursion P xs → AllByRecursion P ys → AllByRecursion P (xs ++ ys)
all_joined P [] ys a b = b
all_joined P (x ∷ xs) ys a b = (a.0, all_joined P xs ys a.1 b)

pub all_parted : {B : Type 0} (P : B → Type 0) (xs ys : List B) → AllByRecursion P (xs ++ ys) → AllByRecursion P xs × AllByRecursion P ys
all_parted P [] ys a = (tt, a)
all_parted P (x ∷ xs) ys a = let s = all_parted P xs ys a.1 in ((a.0, s.0), s.1)

-- a tree: the leaves before both faults are the same, and so are the two that fail
module _ {B : Type 0} (g : TaskGraph) (rules : B → LeafRules) (sound : (b : B) → AreSound (rules b)) where
  abbrev Each : List B → Type 0
  Each bs = AllByRecursion (λ b. Passes g (rules b)) bs

  one_leaf : (v w : LeafFault) (xs : List B) (x : B) (xs_later ys : List B) (y : B) (ys_later : List B) → Each xs → Each ys → Fails g (rules x) v → Fails g (rules y) w → xs ++ x ∷ xs_later ≡ ys ++ y ∷ ys_later → (length xs ≡ length ys) × (x ≡ y)
  one_leaf v w [] x xs_later [] y ys_later a b f h e = (refl, cc)
  one_leaf v w [] x xs_later (z ∷ ys) y ys_later a b f h e = let same : x ≡ z = cc in absurd (fails_or_passes g (rules z) v (sound z) (subst (λ k. Fails g (rules k) v) same f) b.0)
  one_leaf v w (z ∷ xs) x xs_later [] y ys_later a b f h e = let same : y ≡ z = cc in absurd (fails_or_passes g (rules z) w (sound z) (subst (λ k. Fails g (rules k) w) same h) a.0)
  one_leaf v w (k ∷ xs) x xs_later (z ∷ ys) y ys_later a b f h e =
      let tails : xs ++ x ∷ xs_later ≡ ys ++ y ∷ ys_later = cc in
      let s = one_leaf v w xs x xs_later ys y ys_later a.1 b.1 f h tails in
      (ap suc s.0, s.1)

  one_place : (c n : ℕ) (bs : List B) (one other : CertFault) → LeavesFail g rules c n bs one → LeavesFail g rules c n bs other → one ≡ other
  one_place c n bs one other a b =
      let s = one_leaf a.why b.why a.earlier a.branch a.later b.earlier b.branch b.later a.passed b.passed a.fails b.fails (sym a.list ∙ b.list) in
      let w = one_why g (rules b.branch) a.why b.why (sound b.branch) (subst (λ z. Fails g (rules z) a.why) s.1 a.fails) b.fails in
      a.at ∙ ap (λ z. place c (n + z) a.why) s.0 ∙ ap (place c (n + length b.earlier)) w ∙ sym b.at

  none_fails : (c n : ℕ) (bs : List B) (fault : CertFault) → Each bs → LeavesFail g rules c n bs fault → ⊥
  none_fails c n bs fault each f =
      let rest = all_parted (λ b. Passes g (rules b)) f.earlier (f.branch ∷ f.later) (subst Each f.list each) in
      fails_or_passes g (rules f.branch) f.why (sound f.branch) f.fails rest.1.0

-- the claims: those before both faults are the same, and so are the two whose trees fail
one_claim : {T : Type 0} (Accepts : Claim → T → Type 0) (cs : List Claim) (c : Claim) (cs_later ds : List Claim) (d : Claim) (ds_later : List Claim) (ts : List T) (t : T) (ts_later us : List T) (u : T) (us_later : List T)
    → AllZip Accepts cs ts → AllZip Accepts ds us → (Accepts c t → ⊥) → (Accepts d u → ⊥) → cs ++ c ∷ cs_later ≡ ds ++ d ∷ ds_later → ts ++ t ∷ ts_later ≡ us ++ u ∷ us_later → (length cs ≡ length ds) × (c ≡ d) × (t ≡ u)
one_claim Accepts [] c cs_later [] d ds_later [] t ts_later [] u us_later a b f h e k = (refl, cc, cc)
one_claim Accepts [] c cs_later ds d ds_later (x ∷ ts) t ts_later us u us_later a b f h e k = absurd a
one_claim Accepts (z ∷ cs) c cs_later ds d ds_later [] t ts_later us u us_later a b f h e k = absurd a
one_claim Accepts cs c cs_later [] d ds_later ts t ts_later (y ∷ us) u us_later a b f h e k = absurd b
one_claim Accepts cs c cs_later (z ∷ ds) d ds_later ts t ts_later [] u us_later a b f h e k = absurd b
one_claim Accepts [] c cs_later (z ∷ ds) d ds_later [] t ts_later (y ∷ us) u us_later a b f h e k =
    let same : z ≡ c = cc in
    let same_tree : y ≡ t = cc in
    absurd (f (subst (λ v. Accepts v t) same (subst (Accepts z) same_tree b.0)))
one_claim Accepts (z ∷ cs) c cs_later [] d ds_later (x ∷ ts) t ts_later [] u us_later a b f h e k =
    let same : z ≡ d = cc in
    let same_tree : x ≡ u = cc in
    absurd (h (subst (λ v. Accepts v u) same (subst (Accepts z) same_tree a.0)))
one_claim Accepts (z ∷ cs) c cs_later (v ∷ ds) d ds_later (x ∷ ts) t ts_later (y ∷ us) u us_later a b f h e k =
    let claims : cs ++ c ∷ cs_later ≡ ds ++ d ∷ ds_later = cc in
    let trees : ts ++ t ∷ ts_later ≡ us ++ u ∷ us_later = cc in
    let s = one_claim Accepts cs c cs_later ds d ds_later ts t ts_later us u us_later a.1 b.1 f h claims trees in
    (ap suc s.0, s.1, s.2)

-- shapes: of two places with right shapes before them, at the one that is earlier a shape is right too
module _ {T : Type 0} (HasShape : T → Type 0) where
  right_here : (claim : Claim) (claims : List Claim) (tree : T) (trees : List T) (cs : List Claim) (ts : List T) → HasShape tree → cs ≡ claim ∷ claims → ts ≡ tree ∷ trees → FirstMisfits HasShape cs ts → ⊥
  right_here claim claims tree trees [] ts h e k f = absurd (cc)
  right_here claim claims tree trees (c ∷ cs) [] h e k f = absurd (cc)
  right_here claim claims tree trees (c ∷ cs) (t ∷ ts) h e k f = let same : tree ≡ t = cc in f (subst HasShape same h)

  one_misfit : (cs cs_later ds ds_later : List Claim) (ts ts_later us us_later : List T) → HaveShape HasShape cs ts → HaveShape HasShape ds us → FirstMisfits HasShape cs_later ts_later → FirstMisfits HasShape ds_later us_later → cs ++ cs_later ≡ ds ++ ds_later → ts ++ ts_later ≡ us ++ us_later → length cs ≡ length ds
  one_misfit [] cs_later [] ds_later ts ts_later us us_later a b f h e k = refl
  one_misfit cs cs_later (z ∷ ds) ds_later ts ts_later [] us_later a b f h e k = absurd b
  one_misfit (z ∷ cs) cs_later ds ds_later [] ts_later us us_later a b f h e k = absurd a
  one_misfit [] cs_later (z ∷ ds) ds_later (x ∷ ts) ts_later us us_later a b f h e k = absurd a
  one_misfit (z ∷ cs) cs_later [] ds_later ts ts_later (y ∷ us) us_later a b f h e k = absurd b
  one_misfit [] cs_later (z ∷ ds) ds_later [] ts_later (y ∷ us) us_later a b f h e k =
      absurd (right_here z (ds ++ ds_later) y (us ++ us_later) cs_later ts_later b.0 e k f)
  one_misfit (z ∷ cs) cs_later [] ds_later (x ∷ ts) ts_later [] us_later a b f h e k =
      absurd (right_here z (cs ++ cs_later) x (ts ++ ts_later) ds_later us_later a.0 (sym e) (sym k) h)
  one_misfit (z ∷ cs) cs_later (v ∷ ds) ds_later (x ∷ ts) ts_later (y ∷ us) us_later a b f h e k =
      let claims : cs ++ cs_later ≡ ds ++ ds_later = cc in
      let trees : ts ++ ts_later ≡ us ++ us_later = cc in
      ap suc (one_misfit cs cs_later ds ds_later ts ts_later us us_later a.1 b.1 f h claims trees)

  none_misfits : (cs cs_later : List Claim) (ts ts_later : List T) → HaveShape HasShape (cs ++ cs_later) (ts ++ ts_later) → HaveShape HasShape cs ts → FirstMisfits HasShape cs_later ts_later → ⊥
  none_misfits [] [] [] [] a b f = f
  none_misfits [] [] [] (t ∷ ts) a b f = a
  none_misfits [] (c ∷ cs) [] [] a b f = a
  none_misfits [] (c ∷ cs) [] (t ∷ ts) a b f = f a.0
  none_misfits [] cs_later (t ∷ ts) ts_later a b f = b
  none_misfits (c ∷ cs) cs_later [] ts_later a b f = b
  none_misfits (c ∷ cs) cs_later (t ∷ ts) ts_later a b f = none_misfits cs cs_later ts ts_later a.1 b.1 f

  shaped_or_misfits : (n : ℕ) (claims : List Claim) (trees : List T) (fault : CertFault) → HaveShape HasShape claims trees → Misfits HasShape n claims trees fault → ⊥
  shaped_or_misfits n claims trees fault a m =
      none_misfits m.earlier_claims m.later_claims m.earlier_trees m.later_trees
      (subst (λ z. HaveShape HasShape z (m.earlier_trees ++ m.later_trees)) m.claims_are (subst (λ z. HaveShape HasShape claims z) m.trees_are a)) m.shaped m.misfits

  one_shape : (n : ℕ) (claims : List Claim) (trees : List T) (one other : CertFault) → Misfits HasShape n claims trees one → Misfits HasShape n claims trees other → one ≡ other
  one_shape n claims trees one other a b =
      let s =
      one_misfit a.earlier_claims a.later_claims b.earlier_claims b.later_claims a.earlier_trees a.later_trees b.earlier_trees b.later_trees a.shaped b.shaped a.misfits b.misfits
      (sym a.claims_are ∙ b.claims_are) (sym a.trees_are ∙ b.trees_are) in
      a.at ∙ ap (λ z. Shape (n + z)) s ∙ sym b.at

-- certificates whose rules are sound, and where each leaf of an accepted tree passes
module _ (g : TaskGraph) (c : Certificates) (sound : (p : Property TaskId) (b : c.Branch) → AreSound (c.rules p b)) (each : (claim : Claim) (tree : c.Tree) → c.Accepts claim tree → AllByRecursion (λ b. Passes g (c.rules claim.body b)) (c.leaves_for claim tree)) where
  accepted_fails_none : (n : ℕ) (claim : Claim) (tree : c.Tree) (fault : CertFault) → LeavesFail g (c.rules claim.body) n 1 (c.leaves_for claim tree) fault → c.Accepts claim tree → ⊥
  accepted_fails_none n claim tree fault f e = none_fails g (c.rules claim.body) (sound claim.body) n 1 (c.leaves_for claim tree) fault (each claim tree e) f

  one_of_claims : (n : ℕ) (claims : List Claim) (trees : List c.Tree) (one other : CertFault) → ClaimsFail g c n claims trees one → ClaimsFail g c n claims trees other → one ≡ other
  one_of_claims n claims trees one other a b =
      let s =
      one_claim c.Accepts a.earlier_claims a.claim a.later_claims b.earlier_claims b.claim b.later_claims a.earlier_trees a.tree a.later_trees b.earlier_trees b.tree b.later_trees a.accepted b.accepted
      (accepted_fails_none (n + length a.earlier_claims) a.claim a.tree one a.fails) (accepted_fails_none (n + length b.earlier_claims) b.claim b.tree other b.fails)
      (sym a.claims_are ∙ b.claims_are) (sym a.trees_are ∙ b.trees_are) in
      let numbered = subst (λ z. LeavesFail g (c.rules a.claim.body) (n + z) 1 (c.leaves_for a.claim a.tree) one) s.0 a.fails in
      let claimed = subst (λ z. LeavesFail g (c.rules z.body) (n + length b.earlier_claims) 1 (c.leaves_for z a.tree) one) s.1 numbered in
      one_place g (c.rules b.claim.body) (sound b.claim.body) (n + length b.earlier_claims) 1 (c.leaves_for b.claim b.tree) one other
      (subst (λ z. LeavesFail g (c.rules b.claim.body) (n + length b.earlier_claims) 1 (c.leaves_for b.claim z) one) s.2 claimed) b.fails

  pub one_first : (claims : List Claim) (trees : List c.Tree) (one other : CertFault) → IsFirst g c claims trees one → IsFirst g c claims trees other → one ≡ other
  one_first claims trees one other (inl a) (inl b) = one_shape c.HasShape 1 claims trees one other a b
  one_first claims trees one other (inl a) (inr b) = absurd (shaped_or_misfits c.HasShape 1 claims trees one b.0 a)
  one_first claims trees one other (inr a) (inl b) = absurd (shaped_or_misfits c.HasShape 1 claims trees other a.0 b)
  one_first claims trees one other (inr a) (inr b) = one_of_claims 1 claims trees one other a.1 b.1
