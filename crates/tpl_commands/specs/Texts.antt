-- The lines that the program writes.
use Rattle.std.specs.Prelude.{ℕ, Bool, true, false, List, ◌++◌, codes, decimal}
use Rattle.tpl_model.specs.declared.status.Status.{Status}
use Rattle.tpl_model.specs.Statuses.{status_name}
use Rattle.tpl_model.specs.declared.fault.Rule.{Rule}
use Rattle.tpl_model.specs.declared.fault.Rule.TheVariants.{K1, K2, K3, K4, K5, K6}

-- the name of a rule
abbrev pub rule_name : Rule → List ℕ
rule_name K1 = codes "K1"
rule_name K2 = codes "K2"
rule_name K3 = codes "K3"
rule_name K4 = codes "K4"
rule_name K5 = codes "K5"
rule_name K6 = codes "K6"

-- the line for a claim whose tree has the wrong shape
abbrev pub refused_shape : ℕ → List ℕ
refused_shape claim = codes "refused: shape claim " ++ (decimal claim ++ codes "\n")

-- the line for a row that breaks a rule
abbrev pub refused_leaf : ℕ → ℕ → List ℕ → Rule → List ℕ
refused_leaf claim leaf name rule = codes "refused: not closed claim " ++ (decimal claim ++ (codes " leaf " ++ (decimal leaf ++ (codes " task " ++ (name ++ (codes " rule " ++ (rule_name rule ++ codes "\n")))))))

-- the line for a leaf that doesn't prove its claim
abbrev pub refused_claim : ℕ → ℕ → List ℕ
refused_claim claim leaf = codes "refused: claim " ++ (decimal claim ++ (codes " leaf " ++ (decimal leaf ++ codes "\n")))

-- the line for the first claim without a certificate
abbrev pub not_found : ℕ → List ℕ
not_found claim = codes "not found: claim " ++ (decimal claim ++ codes "\n")

-- the line that says whether each task has ended
abbrev pub ended : Bool → List ℕ
ended true = codes "run complete\n"
ended false = codes "run not complete\n"

-- the line for the first place at which a claim fails
abbrev pub claim_fails : ℕ → ℕ → List ℕ
claim_fails claim place = codes "claim " ++ (decimal claim ++ (codes " fails at " ++ (decimal place ++ codes "\n")))

-- the line for a task of this name that has not ended as the document says
abbrev pub task_ended : List ℕ → Status → List ℕ
task_ended name status = codes "task " ++ (name ++ (codes " ended " ++ (status_name status ++ codes "\n")))

-- the line for the first event that isn't allowed
abbrev pub not_allowed : ℕ → List ℕ
not_allowed place = codes "not allowed at " ++ (decimal place ++ codes "\n")

-- the line for what is wrong with a document as a whole
abbrev pub unreadable : List ℕ → List ℕ
unreadable what = codes "unreadable: " ++ (what ++ codes "\n")

-- the line for what is wrong with a claim or a tree, by its number
abbrev pub unreadable_part : List ℕ → ℕ → List ℕ → List ℕ
unreadable_part part number why = codes "unreadable: " ++ (part ++ (codes " " ++ (decimal number ++ (codes " " ++ (why ++ codes "\n")))))

-- the line for a part of the wrong shape, or for a line of the journal, by its number
abbrev pub unreadable_at : List ℕ → ℕ → List ℕ
unreadable_at part number = codes "unreadable: " ++ (part ++ (codes " " ++ (decimal number ++ codes "\n")))

-- the line for what is wrong with the graph, with the number of the task
abbrev pub unreadable_graph : List ℕ → ℕ → List ℕ
unreadable_graph why task = codes "unreadable: graph " ++ (why ++ (codes " task " ++ (decimal task ++ codes "\n")))

-- the line for what is wrong with the start
abbrev pub unreadable_start : List ℕ → List ℕ
unreadable_start why = codes "unreadable: start " ++ (why ++ codes "\n")
