-- What the first fault of a certificate by the rules without tokens says, in terms of the rules.
use Rattle.tpl_model.specs.declared.rule_set.RuleSet.TheVariants.{WithoutTokens}
use Rattle.std.specs.Prelude.{◌≡◌, ℕ, ◌<◌, ◌++◌, Bool, true, false, Err, List, [], ◌∷◌, length}
use Rattle.tpl_model.specs.declared.finals.Final.{Final}
use Rattle.tpl_model.specs.declared.finals.Final.TheVariants.{RanToCompletion, Canceled, Faulted}
use Rattle.tpl_model.specs.Finals.{has}
use Rattle.tpl_model.specs.Members.{mem}
use Rattle.tpl_model.specs.Graph.{TaskGraph, kind, is_task}
use Rattle.tpl_model.specs.Valid.{IsGraph}
use Rattle.tpl_model.specs.declared.ids.TaskId.{TaskId}
use Rattle.tpl_model.specs.declared.claim.Property.{Property}
use Rattle.tpl_model.specs.Claims.{Claim}
use Rattle.tpl_model.specs.Certificate.{PlainRow, row, plain, Tree, OnInput, OnEnd, OnWinner, RowsLeaf, LeastLeaf, ArePlain, Assumed, end_left, assumed_for, with_input, with_end, RunsRule, MayEndAs, BeforeRule, PastRule, ChainRule, IsClosed, Proves, IdsOfRows, AcceptsTree}
use Rattle.tpl_model.specs.declared.fault.Rule.{Rule}
use Rattle.tpl_model.specs.declared.fault.CertFault.{CertFault}
use Rattle.tpl_laws.specs.Verdict.{past_rule, LeafFault, verdict}
use Rattle.tpl_laws.specs.FirstFault.{RowRules, BreaksFirst, LeafRules, Fails, Certificates, IsFirst}
pub use Rattle.tpl_laws.specs.FirstFault.{place}

-- the rules for the row of t, which are those of IsClosed
abbrev pub row_rules : TaskGraph → Assumed → List PlainRow → ℕ → RowRules
row_rules g l rows t = record {
  runs = RunsRule g l rows t (kind g t);
  ends = (f : Final) → end_left l t f ≡ true → MayEndAs g l rows t (kind g t) f → has (row rows t).ends f ≡ true;
  before = (row rows t).runs ≡ true → (x : ℕ) → mem x (row rows t).before ≡ true → BeforeRule g rows t (kind g t) x;
  past = (x : ℕ) → mem x (row rows t).past ≡ true → PastRule g l rows t (kind g t) x;
  past_rule = past_rule (kind g t);
  chain = ChainRule g l rows t (row rows t).chain;
}

-- the row breaks this rule and keeps those before it
abbrev pub BreaksRule : TaskGraph → Assumed → List PlainRow → ℕ → Rule → Type 0
BreaksRule g l rows t rule = BreaksFirst (row_rules g l rows t) rule

-- a leaf and what it assumes; those of a tree in order
pub record Branch : Type 0 where
  pub assumes : Assumed
  pub rows : List PlainRow

-- the leaves of a tree under what is assumed above it, in order; one that isn't plain has the wrong shape, whatever its
-- leaves are
abbrev pub leaves_of : Assumed → Tree → List Branch
leaves_of l (OnInput i on_true on_false) = leaves_of (with_input l i true) on_true ++ leaves_of (with_input l i false) on_false
leaves_of l (OnEnd t ran canceled faulted) =
    leaves_of (with_end l t RanToCompletion) ran ++ (leaves_of (with_end l t Canceled) canceled ++ leaves_of (with_end l t Faulted) faulted)
leaves_of l (OnWinner n x on_yes on_no) = leaves_of l on_yes ++ leaves_of l on_no
leaves_of l (RowsLeaf rows) = record { assumes = l; rows = plain rows } ∷ []
leaves_of l LeastLeaf = record { assumes = l; rows = [] } ∷ []

-- what is asked of a leaf for a claim
abbrev pub leaf_rules : TaskGraph → Property TaskId → Branch → LeafRules
leaf_rules g p b = record { IsClosed = IsClosed g b.assumes b.rows; BreaksRule = BreaksRule g b.assumes b.rows; Proves = Proves g b.assumes b.rows p }

-- a leaf fails, and why
abbrev pub LeafFails : TaskGraph → Property TaskId → Branch → LeafFault → Type 0
LeafFails g p b why = Fails g (leaf_rules g p b) why

-- the tree is plain, each id in it is the graph's, and each leaf has one row for each task
abbrev pub HasShape : TaskGraph → Tree → Type 0
HasShape g (OnInput i on_true on_false) = (i < g.inputs) × HasShape g on_true × HasShape g on_false
HasShape g (OnEnd t ran canceled faulted) = is_task g t × HasShape g ran × HasShape g canceled × HasShape g faulted
HasShape g (OnWinner n x on_yes on_no) = ⊥
HasShape g (RowsLeaf rows) = (length rows ≡ length g.tasks) × IdsOfRows g (plain rows) × ArePlain rows
HasShape g LeastLeaf = ⊥

-- certificates of such trees
abbrev pub certificates : TaskGraph → Certificates
certificates g = record {
  Tree = Tree;
  Branch = Branch;
  HasShape = HasShape g;
  leaves_for = λ claim tree. leaves_of (assumed_for WithoutTokens g claim) tree;
  rules = leaf_rules g;
  Accepts = λ claim tree. AcceptsTree g claim.body (assumed_for WithoutTokens g claim) tree;
}

-- a fault is the first one
abbrev pub IsFirstFault : TaskGraph → List Claim → List Tree → CertFault → Type 0
IsFirstFault g claims trees fault = IsFirst g (certificates g) claims trees fault

-- the fault that the verdict names is the first one
abbrev pub FaultIsFirst : Type 0
FaultIsFirst =
    (g : TaskGraph) (claims : List Claim) (trees : List Tree) (fault : CertFault) → IsGraph g → verdict g claims trees ≡ Err fault → IsFirstFault g claims trees fault

-- a certificate has one first fault at most
abbrev pub OneFirstFault : Type 0
OneFirstFault =
    (g : TaskGraph) (claims : List Claim) (trees : List Tree) (one other : CertFault) → IsFirstFault g claims trees one → IsFirstFault g claims trees other → one ≡ other
