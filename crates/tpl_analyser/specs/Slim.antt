-- The forms of certificates: whose rows say no more of where tasks are settled than the claim's proof uses, and whose leaves
-- leave their rows out.
use Rattle.std.specs.Prelude.{◌≡◌, ℕ, true, List, [], ◌∷◌, ⊤}
use Rattle.std.specs.List.{All}
use Rattle.tpl_model.specs.Members.{mem}
use Rattle.tpl_model.specs.declared.ids.TaskId.{TaskId}
use Rattle.tpl_model.specs.declared.claim.Property.{Property}
use Rattle.tpl_model.specs.declared.claim.Property.TheVariants.{After}
use Rattle.tpl_model.specs.Claims.{Claim}
use Rattle.tpl_model.specs.Certificate.{Row, Tree, OnInput, OnEnd, OnWinner, RowsLeaf, LeastLeaf}
use Rattle.tpl_model.specs.declared.rule_set.RuleSet.{RuleSet}
use Rattle.tpl_model.specs.declared.rule_set.RuleSet.TheVariants.{WithoutTokens, WithTokens}
use Rattle.tpl_analyser.specs.Plans.{HasNoRows}
use Rattle.tpl_analyser.specs.declared.form.Form.{Form}
use Rattle.tpl_analyser.specs.declared.form.Form.TheVariants.{Full, Slim, Rows}

-- the proof of the property needs this task in `before` or `past`: it is the first one of an `after`
abbrev pub IsUsed : Property TaskId → ℕ → Type 0
IsUsed (After a b) x = x ≡ a.0
IsUsed p x = ⊥

-- `before` and `past` have no task but those that the proof needs
pub record IsSlimRow (p : Property TaskId) (r : Row) : Type 0 where
  pub before : (x : ℕ) → mem x r.row.before ≡ true → IsUsed p x
  pub past : (x : ℕ) → mem x r.row.past ≡ true → IsUsed p x

-- rows of this form for the property
abbrev pub AreOfForm : Form → Property TaskId → List Row → Type 0
AreOfForm Full p rows = Unit {0}
AreOfForm Slim p rows = All (IsSlimRow p) rows
AreOfForm Rows p rows = Unit {0}

-- each leaf of the tree is of this form
abbrev pub IsOfForm : Form → Property TaskId → Tree → Type 0
IsOfForm form p (OnInput i on_true on_false) = IsOfForm form p on_true × IsOfForm form p on_false
IsOfForm form p (OnEnd t ran canceled faulted) = IsOfForm form p ran × IsOfForm form p canceled × IsOfForm form p faulted
IsOfForm form p (OnWinner n x on_yes on_no) = IsOfForm form p on_yes × IsOfForm form p on_no
IsOfForm form p (RowsLeaf rows) = AreOfForm form p rows
IsOfForm form p LeastLeaf = AreOfForm form p []

-- the tree of each claim is of this form for its property
abbrev pub IsCertificateOf : Form → List Claim → List Tree → Type 0
IsCertificateOf form [] [] = Unit {0}
IsCertificateOf form (claim ∷ claims) (tree ∷ trees) = IsOfForm form claim.body tree × IsCertificateOf form claims trees
IsCertificateOf form [] (tree ∷ trees) = ⊥
IsCertificateOf form (claim ∷ claims) [] = ⊥

-- each leaf has rows
abbrev pub HasAllRows : Tree → Type 0
HasAllRows (OnInput i on_true on_false) = HasAllRows on_true × HasAllRows on_false
HasAllRows (OnEnd t ran canceled faulted) = HasAllRows ran × HasAllRows canceled × HasAllRows faulted
HasAllRows (OnWinner n x on_yes on_no) = HasAllRows on_yes × HasAllRows on_no
HasAllRows (RowsLeaf rows) = ⊤
HasAllRows LeastLeaf = ⊥

-- by the rules with tokens leaves leave their rows out, but where they are asked for
abbrev pub HasLeavesOf : Form → Tree → Type 0
HasLeavesOf Rows tree = HasAllRows tree
HasLeavesOf form tree = HasNoRows tree

-- the trees of a certificate by the rules are of this form for the claims
abbrev pub IsOfFormBy : RuleSet → Form → List Claim → List Tree → Type 0
IsOfFormBy WithoutTokens form claims trees = IsCertificateOf form claims trees
IsOfFormBy WithTokens form claims trees = All (HasLeavesOf form) trees
