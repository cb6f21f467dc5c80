-- What the audit found, as a JSON value.
use Rattle.std.specs.Prelude.{◌≡◌, ℕ, Bool, Option, Some, None, List, codes, map, reverse}
use Rattle.serde_json.specs.Data.{Data, array, boolean, member, no_members, null, number, object, string, unsigned}
use Rattle.serde_json.specs.Read.{read}
use Rattle.serde_json.specs.View.{items_of}
use Rattle.tpl_audit.specs.declared.verdict.Failure.{Failure}
use Rattle.tpl_audit.specs.declared.verdict.OtherEnd.{OtherEnd}
use Rattle.tpl_audit.specs.declared.verdict.Verdict.{Verdict}
use Rattle.tpl_audit.specs.declared.verdict.Verdict.TheVariants.{Run, NotAllowed, Memory}
use Rattle.tpl_audit.specs.Standing.{statuses}
use Rattle.tpl_draft.specs.Named.{Named, Names}
use Rattle.tpl_journal.specs.Lines.{task_name}
use Rattle.tpl_model.specs.Claims.{Claim}
use Rattle.tpl_model.specs.Finals.{final_name}
use Rattle.tpl_model.specs.Statuses.{status_name}
use Rattle.tpl_model.specs.declared.event.Event.{Event}
use Rattle.tpl_model.specs.declared.status.Status.{Status}
use Rattle.tpl_reasons.specs.Words.{claim_words}

-- where a claim fails first; null, where none does
abbrev pub failure_data : Option Failure → Data
failure_data None = null
failure_data (Some failure) =
    object (member (codes "claim") (number (unsigned failure.claim)) (member (codes "place") (number (unsigned failure.place)) no_members))

-- a task that has not ended as is said of it, by the names of its end, its status and itself
abbrev pub other_data : (said status task : List ℕ) → Data
other_data said status task =
    object (member (codes "said") (string said) (member (codes "status") (string status) (member (codes "task") (string task) no_members)))

-- the first task that has not ended as is said of it; null, where each has
abbrev pub ended_data : Names → Option OtherEnd → Data
ended_data names None = null
ended_data names (Some end) = other_data (final_name end.said) (status_name end.status) (task_name names end.task)

-- what was found of a run: the claims in words, whether it is complete, how each task stands at the end, where a claim fails
-- first, and which task has not ended as is said of it
abbrev pub run_data : (claims : List Data) → (complete : Bool) → (ends : List Data) → (fails other : Data) → Data
run_data claims complete ends fails other =
    object (member (codes "claims") (array (items_of claims)) (member (codes "complete") (boolean complete) (member (codes "ends") (array (items_of ends)) (member (codes "fails") fails (member (codes "other_end") other no_members)))))

-- what was found where the event at this place isn't allowed
abbrev pub refused_data : (claims : List Data) → (place : ℕ) → Data
refused_data claims place =
    object (member (codes "claims") (array (items_of claims)) (member (codes "not_allowed") (number (unsigned place)) no_members))

-- the claims in words
abbrev pub claims_data : Names → List Claim → List Data
claims_data names claims = map string (map (claim_words names) claims)

-- the names of statuses
abbrev pub statuses_data : List Status → List Data
statuses_data statuses = map string (map status_name statuses)

-- the value says what this verdict on events says, with these inputs
abbrev pub IsFound : Named → List Claim → (inputs : List Bool) → List Event → Verdict → Data → Type 0
IsFound n claims inputs events (Run complete fails other) d =
    d ≡ run_data (claims_data n.names claims) complete (statuses_data (statuses n.graph inputs (reverse events))) (failure_data fails) (ended_data n.names other)
IsFound n claims inputs events (NotAllowed place) d = d ≡ refused_data (claims_data n.names claims) place
IsFound n claims inputs events Memory d = ⊥

-- the text is read as such a value
abbrev pub IsFoundText : Named → List Claim → (inputs : List Bool) → List Event → Verdict → List ℕ → Type 0
IsFoundText n claims inputs events verdict text =
    (d : Data) × IsFound n claims inputs events verdict d × (read text ≡ Some d)
