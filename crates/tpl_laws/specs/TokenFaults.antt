-- What the first fault of a certificate of rows with tokens says, in terms of the rules.
use Rattle.std.specs.Prelude.{◌≡◌, ℕ, ◌<◌, ◌++◌, true, false, Err, List, [], ◌∷◌, length}
use Rattle.tpl_model.specs.declared.finals.Final.TheVariants.{RanToCompletion, Canceled, Faulted}
use Rattle.tpl_model.specs.Knowledge.{Fact}
use Rattle.tpl_model.specs.Graph.{TaskGraph, kind, is_task}
use Rattle.tpl_model.specs.Valid.{IsGraph}
use Rattle.tpl_model.specs.declared.ids.TaskId.{TaskId}
use Rattle.tpl_model.specs.declared.claim.Property.{Property}
use Rattle.tpl_model.specs.Claims.{Claim}
use Rattle.tpl_model.specs.Certificate.{row, IdsOfRows, Row, plain, Tree, OnInput, OnEnd, OnWinner, RowsLeaf, LeastLeaf}
use Rattle.tpl_model.specs.TokenRules.{begins_with, ends_with, LeafAssumed, kind_left, may_run, TokenRunsRule, TokenEndsRule, BeginRule, EndRule, TokenChainRule, IsClosedWithTokens, ProvesWithTokens, narrowed, TokensOfRows, input_split, end_split, winner_split, MayHaveWinner, assumed_with_tokens}
use Rattle.tpl_laws.specs.TokenTrees.{AcceptsTokenTree}
use Rattle.tpl_model.specs.declared.fault.Rule.{Rule}
use Rattle.tpl_model.specs.declared.fault.CertFault.{CertFault}
use Rattle.tpl_laws.specs.Verdict.{past_rule}
use Rattle.tpl_laws.specs.LeastRows.{least_rows}
use Rattle.tpl_laws.specs.TokenVerdict.{token_verdict}
use Rattle.tpl_laws.specs.FirstFault.{RowRules, BreaksFirst, LeafRules, Certificates, IsFirst}

-- the rules for the row of t, which are those of IsClosedWithTokens
abbrev pub token_row_rules : TaskGraph → LeafAssumed → List Row → ℕ → RowRules
token_row_rules g l rows t = record {
  runs = TokenRunsRule g l rows t (kind g t);
  ends = TokenEndsRule g l rows t (kind_left g l t);
  before = may_run rows t ≡ true → (fact : Fact) → begins_with rows t fact ≡ true → BeginRule g l rows t (kind g t) fact;
  past = (fact : Fact) → ends_with rows t fact ≡ true → EndRule g l rows t (kind_left g l t) fact;
  past_rule = past_rule (kind g t);
  chain = TokenChainRule g l rows t (row (plain rows) t).chain;
}

-- the row breaks this rule and keeps those before it
abbrev pub TokenBreaksRule : TaskGraph → LeafAssumed → List Row → ℕ → Rule → Type 0
TokenBreaksRule g l rows t rule = BreaksFirst (token_row_rules g l rows t) rule

-- a leaf and what its splits left, which is narrowed by all tasks before the rules are asked
pub record TokenBranch : Type 0 where
  pub assumes : LeafAssumed
  pub rows : List Row

-- the leaves of a property's tree under what is assumed above it, in order; one without rows has the least ones
abbrev pub token_leaves_of : TaskGraph → Property TaskId → LeafAssumed → Tree → List TokenBranch
token_leaves_of g p l (OnInput i on_true on_false) = token_leaves_of g p (input_split l i true) on_true ++ token_leaves_of g p (input_split l i false) on_false
token_leaves_of g p l (OnEnd t ran canceled faulted) =
    token_leaves_of g p (end_split l t RanToCompletion) ran
    ++ (token_leaves_of g p (end_split l t Canceled) canceled ++ token_leaves_of g p (end_split l t Faulted) faulted)
token_leaves_of g p l (OnWinner n x on_yes on_no) = token_leaves_of g p (winner_split l n x true) on_yes ++ token_leaves_of g p (winner_split l n x false) on_no
token_leaves_of g p l (RowsLeaf rows) = record { assumes = narrowed g l; rows = rows } ∷ []
token_leaves_of g p l LeastLeaf = record { assumes = narrowed g l; rows = least_rows g (narrowed g l) p } ∷ []

-- what is asked of a leaf for a claim
abbrev pub token_leaf_rules : TaskGraph → Property TaskId → TokenBranch → LeafRules
token_leaf_rules g p b = record { IsClosed = IsClosedWithTokens g b.assumes b.rows; BreaksRule = TokenBreaksRule g b.assumes b.rows; Proves = ProvesWithTokens g b.assumes b.rows p }

-- each id in a tree is the graph's, each winner is an argument of its task, and each leaf has one row for each task
abbrev pub HasTokenShape : TaskGraph → Tree → Type 0
HasTokenShape g (OnInput i on_true on_false) = (i < g.inputs) × HasTokenShape g on_true × HasTokenShape g on_false
HasTokenShape g (OnEnd t ran canceled faulted) = is_task g t × HasTokenShape g ran × HasTokenShape g canceled × HasTokenShape g faulted
HasTokenShape g (OnWinner n x on_yes on_no) = MayHaveWinner (kind g n) x × HasTokenShape g on_yes × HasTokenShape g on_no
HasTokenShape g (RowsLeaf rows) = (length rows ≡ length g.tasks) × IdsOfRows g (plain rows) × TokensOfRows g rows
HasTokenShape g LeastLeaf = Unit {0}

-- certificates of such trees
abbrev pub token_certificates : TaskGraph → Certificates
token_certificates g = record {
  Tree = Tree;
  Branch = TokenBranch;
  HasShape = HasTokenShape g;
  leaves_for = λ claim tree. token_leaves_of g claim.body (assumed_with_tokens g claim) tree;
  rules = token_leaf_rules g;
  Accepts = λ claim tree. AcceptsTokenTree g claim.body (assumed_with_tokens g claim) tree;
}

-- a fault is the first one
abbrev pub IsFirstTokenFault : TaskGraph → List Claim → List Tree → CertFault → Type 0
IsFirstTokenFault g claims trees fault = IsFirst g (token_certificates g) claims trees fault

-- the fault that the verdict names is the first one
abbrev pub TokenFaultIsFirst : Type 0
TokenFaultIsFirst =
    (g : TaskGraph) (claims : List Claim) (trees : List Tree) (fault : CertFault) → IsGraph g → token_verdict g claims trees ≡ Err fault → IsFirstTokenFault g claims trees fault

-- a certificate has one first fault at most
abbrev pub OneFirstTokenFault : Type 0
OneFirstTokenFault =
    (g : TaskGraph) (claims : List Claim) (trees : List Tree) (one other : CertFault) → IsFirstTokenFault g claims trees one → IsFirstTokenFault g claims trees other → one ≡ other
