-- The first fault of a certificate, whatever its rows and trees are.
use Rattle.std.specs.Prelude.{◌≡◌, ℕ, ◌+◌, ◌<◌, ◌++◌, ◌⊎◌, List, [], ◌∷◌, length}
use Rattle.std.specs.List.{AllByRecursion, AllZip}
use Rattle.tpl_model.specs.Graph.{TaskGraph, is_task}
use Rattle.tpl_model.specs.declared.ids.TaskId.{TaskId}
use Rattle.tpl_model.specs.declared.claim.Property.{Property}
use Rattle.tpl_model.specs.Claims.{Claim}
use Rattle.tpl_model.specs.declared.fault.Rule.{Rule}
use Rattle.tpl_model.specs.declared.fault.Rule.TheVariants.{K1, K2, K3, K4, K5, K6}
use Rattle.tpl_model.specs.declared.fault.CertFault.{CertFault}
use Rattle.tpl_model.specs.declared.fault.CertFault.TheVariants.{Shape, NotClosed, ClaimNot}
use Rattle.tpl_laws.specs.Verdict.{LeafFault, Breaks, ProvesNot}

-- what the rules ask of the row of one task: runs is K1, ends K2, before K3, past K4 or K5, whose name past_rule is, and
-- chain K6
pub record RowRules : Type 1 where
  pub runs : Type 0
  pub ends : Type 0
  pub before : Type 0
  pub past : Type 0
  pub past_rule : Rule
  pub chain : Type 0

-- the row breaks this rule and keeps those before it
abbrev pub BreaksFirst : RowRules → Rule → Type 0
BreaksFirst r K1 = r.runs → ⊥
BreaksFirst r K2 = r.runs × (r.ends → ⊥)
BreaksFirst r K3 = r.runs × r.ends × (r.before → ⊥)
BreaksFirst r K4 = r.runs × r.ends × r.before × (r.past → ⊥) × (r.past_rule ≡ K4)
BreaksFirst r K5 = r.runs × r.ends × r.before × (r.past → ⊥) × (r.past_rule ≡ K5)
BreaksFirst r K6 = r.runs × r.ends × r.before × r.past × (r.chain → ⊥)

-- what is asked of a leaf: that the row of each task is closed, that it breaks no rule, and that the claim is proved
pub record LeafRules : Type 1 where
  pub IsClosed : ℕ → Type 0
  pub BreaksRule : ℕ → Rule → Type 0
  pub Proves : Type 0

-- the leaf is closed and proves the claim
abbrev pub Passes : TaskGraph → LeafRules → Type 0
Passes g r = ((t : ℕ) → is_task g t → r.IsClosed t) × r.Proves

-- the leaf fails: the row of this task breaks this rule, and those of the tasks before it break none; or it is closed and
-- doesn't prove the claim
abbrev pub Fails : TaskGraph → LeafRules → LeafFault → Type 0
Fails g r (Breaks t rule) = is_task g t × ((x : ℕ) → x < t → r.IsClosed x) × r.BreaksRule t rule
Fails g r ProvesNot = ((t : ℕ) → is_task g t → r.IsClosed t) × (r.Proves → ⊥)

-- the fault of a leaf, with the numbers of claim and leaf
abbrev pub place : ℕ → ℕ → LeafFault → CertFault
place claim leaf (Breaks t rule) = NotClosed claim leaf (record { 0 = t }) rule
place claim leaf ProvesNot = ClaimNot claim leaf

-- what certificates of one kind are made of, and what is asked of them: the shape of a tree, its leaves for a claim in
-- order, each with what it assumes, the rules for such a leaf, and when a tree is accepted for a claim
pub record Certificates : Type 1 where
  pub Tree : Type 0
  pub Branch : Type 0
  pub HasShape : Tree → Type 0
  pub leaves_for : Claim → Tree → List Branch
  pub rules : Property TaskId → Branch → LeafRules
  pub Accepts : Claim → Tree → Type 0

-- one of these leaves fails, and those before it are closed and prove the claim; the first of them has the number n
pub record LeavesFail {B : Type 0} (g : TaskGraph) (rules : B → LeafRules) (claim : ℕ) (n : ℕ) (bs : List B) (fault : CertFault) : Type 0 where
  pub earlier : List B
  pub branch : B
  pub later : List B
  pub list : bs ≡ earlier ++ branch ∷ later
  pub passed : AllByRecursion (λ b. Passes g (rules b)) earlier
  pub why : LeafFault
  pub fails : Fails g (rules branch) why
  pub at : fault ≡ place claim (n + length earlier) why

-- the tree of one of these claims fails, and those of the claims before it are accepted; the first of them has the
-- number n
pub record ClaimsFail (g : TaskGraph) (c : Certificates) (n : ℕ) (claims : List Claim) (trees : List c.Tree) (fault : CertFault) : Type 0 where
  pub earlier_claims : List Claim
  pub claim : Claim
  pub later_claims : List Claim
  pub earlier_trees : List c.Tree
  pub tree : c.Tree
  pub later_trees : List c.Tree
  pub claims_are : claims ≡ earlier_claims ++ claim ∷ later_claims
  pub trees_are : trees ≡ earlier_trees ++ tree ∷ later_trees
  pub accepted : AllZip c.Accepts earlier_claims earlier_trees
  pub fails : LeavesFail g (c.rules claim.body) (n + length earlier_claims) 1 (c.leaves_for claim tree) fault

-- one tree of the right shape for each claim
abbrev pub HaveShape : {T : Type 0} → (T → Type 0) → List Claim → List T → Type 0
HaveShape HasShape claims trees = AllZip (λ claim tree. HasShape tree) claims trees

-- the first of these claims has no tree of that shape, or the first of these trees no claim
abbrev pub FirstMisfits : {T : Type 0} → (T → Type 0) → List Claim → List T → Type 0
FirstMisfits HasShape [] [] = ⊥
FirstMisfits HasShape (claim ∷ claims) (tree ∷ trees) = HasShape tree → ⊥
FirstMisfits HasShape claims trees = Unit {0}

-- one of these claims has no tree of that shape, or one of these trees no claim, and those before it have their shape
pub record Misfits {T : Type 0} (HasShape : T → Type 0) (n : ℕ) (claims : List Claim) (trees : List T) (fault : CertFault) : Type 0 where
  pub earlier_claims : List Claim
  pub later_claims : List Claim
  pub earlier_trees : List T
  pub later_trees : List T
  pub claims_are : claims ≡ earlier_claims ++ later_claims
  pub trees_are : trees ≡ earlier_trees ++ later_trees
  pub shaped : HaveShape HasShape earlier_claims earlier_trees
  pub misfits : FirstMisfits HasShape later_claims later_trees
  pub at : fault ≡ Shape (n + length earlier_claims)

-- a fault is the first one: a shape, or where all shapes are right the first leaf that fails of the first claim whose
-- tree isn't accepted
abbrev pub IsFirst : TaskGraph → (c : Certificates) → List Claim → List c.Tree → CertFault → Type 0
IsFirst g c claims trees fault = Misfits c.HasShape 1 claims trees fault ⊎ (HaveShape c.HasShape claims trees × ClaimsFail g c 1 claims trees fault)
