-- Short words, in which the worked certificates are written beside those of Words: tasks with their options, rows, and
-- lists of one claim.
use Rattle.std.specs.Prelude.{ℕ, ◌||◌, true, false, List, [], ◌∷◌, map}
use Rattle.tpl_model.specs.declared.finals.Finals.{Finals}
use Rattle.tpl_model.specs.Statements.{Cancel, Observe, Statements, Nothing, ◌⨾◌}
use Rattle.tpl_model.specs.Graph.{TaskGraph, Task, Token, Child}
use Rattle.tpl_model.specs.declared.fault.Rule.{Rule}
use Rattle.tpl_model.specs.declared.fault.CertFault.{CertFault}
use Rattle.tpl_model.specs.declared.fault.CertFault.TheVariants.{NotClosed}
use Rattle.tpl_model.specs.declared.claim.Given.{Given}
use Rattle.tpl_model.specs.declared.ids.TaskId.{TaskId}
use Rattle.tpl_model.specs.declared.claim.Property.{Property}
use Rattle.tpl_model.specs.Claims.{Claim}
use Rattle.tpl_model.specs.Certificate.{PlainRow, Row, Tree, RowsLeaf}
use Rattle.tpl_examples.specs.Words.{bare, continues, ran, canceled, faulted, with_options, throwing, claim, claim_given}

-- tasks with option words, and a graph with tokens and a number of inputs
abbrev pub child_with : Statements → ℕ → Task
child_with body options = with_options options (bare Child body)

abbrev pub continuing : ℕ → Statements → ℕ → Task
continuing antecedent body options = with_options options (continues antecedent body)

abbrev pub graph_with : List Token → ℕ → List Task → TaskGraph
graph_with tokens inputs tasks = record { tokens = tokens; inputs = inputs; tasks = tasks }

-- sets of no and of several ways to end
abbrev pub nothing : Finals
nothing = record { ran = false; canceled = false; faulted = false }

abbrev pub either : Finals → Finals → Finals
either a b = record { ran = a.ran || b.ran; canceled = a.canceled || b.canceled; faulted = a.faulted || b.faulted }

abbrev pub ran_or_canceled : Finals
ran_or_canceled = either ran canceled

abbrev pub ran_or_faulted : Finals
ran_or_faulted = either ran faulted

abbrev pub any_end : Finals
any_end = either ran_or_canceled faulted

-- a row that runs, with what is before and past it and its chain, and one that doesn't run, with what is past it
abbrev pub runs : Finals → List ℕ → List ℕ → List ℕ → PlainRow
runs ends before past chain = record { ends = ends; runs = true; before = before; past = past; chain = chain }

abbrev pub ends : Finals → PlainRow
ends f = runs f [] [] []

abbrev pub behind : Finals → List ℕ → PlainRow
behind ends past = record { ends = ends; runs = false; before = []; past = past; chain = [] }

abbrev pub not_run : Finals → PlainRow
not_run ends = behind ends []

-- one claim, and what is given for it
abbrev pub one_claim : Property TaskId → List Claim
one_claim says = claim says ∷ []

abbrev pub one_claim_given : List Given → Property TaskId → List Claim
one_claim_given facts says = claim_given facts says ∷ []

-- the fault of a row that breaks a rule
abbrev pub not_closed : ℕ → ℕ → ℕ → Rule → CertFault
not_closed claim leaf t rule = NotClosed claim leaf (record { 0 = t }) rule

-- these rows, which say nothing of tokens
abbrev pub bare_rows : List PlainRow → List Row
bare_rows rows = map (λ (r : PlainRow). record { row = r; asked = []; asks = [] }) rows

-- a leaf with these rows, and a certificate of one tree, which is such a leaf
abbrev pub one_leaf : List PlainRow → Tree
one_leaf rows = RowsLeaf (bare_rows rows)

abbrev pub leaf : List PlainRow → List Tree
leaf rows = one_leaf rows ∷ []

-- bodies of one statement; the last one is stuck where its token is never requested, since it requests it
abbrev pub throws : Statements
throws = throwing 0

abbrev pub observes : Statements
observes = Observe ⨾ Nothing

abbrev pub stuck : Statements
stuck = Cancel 0 ⨾ Nothing
