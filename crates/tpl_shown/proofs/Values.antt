-- What was found as values of JSON, and how deep they nest.
use Rattle.std.proofs.Common.{◌≡◌, ◌∙◌, ℕ, ◌≤◌, List, [], ◌∷◌, Bool, String, Global, Option, Some, None, map, reverse, ap, sym, subst, string_bytes, rules, arith}
use Rattle.std.specs.Prelude.{IfSome}
use Rattle.serde_json.specs.Data.{Data, depth, items_depth, string}
use Rattle.serde_json.specs.View.{items_of, view}
use Rattle.serde_json.specs.declared.value.Value as json
use Rattle.serde_json.specs.declared.value.Value.{the_lemmas}
use Rattle.tpl_audit.specs.declared.verdict.Failure.{Failure}
use Rattle.tpl_audit.specs.declared.verdict.OtherEnd.{OtherEnd}
use Rattle.tpl_audit.specs.declared.verdict.Verdict.{Verdict}
use Rattle.tpl_audit.specs.declared.verdict.Verdict.TheVariants.{Run, NotAllowed, Memory}
use Rattle.tpl_audit.specs.Ending.{FirstOtherEnd}
use Rattle.tpl_audit.specs.Standing.{statuses}
use Rattle.tpl_draft.specs.Named.{Named, Names}
use Rattle.tpl_model.specs.Claims.{Claim}
use Rattle.tpl_model.specs.Graph.{TaskGraph, is_task}
use Rattle.tpl_model.specs.Statuses.{status_name}
use Rattle.tpl_model.specs.declared.event.Event.{Event}
use Rattle.tpl_model.specs.declared.finals.Final.{Final}
use Rattle.tpl_model.specs.declared.ids.TaskId.{TaskId}
use Rattle.tpl_reasons.specs.Words.{claim_words}
use Rattle.tpl_shown.specs.Found.{IsFound, ended_data, failure_data}

-- a text as a value
pub text_value : (s : String Global) (bytes : List ℕ) → string_bytes s ≡ bytes → view (json.String s) ≡ string bytes
text_value s bytes is = let same : view (json.String s) ≡ string (string_bytes s) = search (rules, the_lemmas) in same ∙ ap string is

strings_depth : (texts : List (List ℕ)) → items_depth (items_of (map string texts)) ≤ 0
strings_depth [] = omega arith
strings_depth (text ∷ texts) = let rest = strings_depth texts in omega arith

failure_depth : (fails : Option Failure) → depth (failure_data fails) ≤ 1
failure_depth None = omega arith
failure_depth (Some failure) = omega arith

ended_depth : (names : Names) (other : Option OtherEnd) → depth (ended_data names other) ≤ 1
ended_depth names None = omega arith
ended_depth names (Some end) = omega arith

-- what was found nests little
pub found_depth : (n : Named) (claims : List Claim) (inputs : List Bool) (events : List Event) (verdict : Verdict) (d : Data) → IsFound n claims inputs events verdict d → depth d ≤ 127
found_depth n claims inputs events (Run complete fails other) d is =
    let words = strings_depth (map (claim_words n.names) claims) in
    let ends = strings_depth (map status_name (statuses n.graph inputs (reverse events))) in
    let failure = failure_depth fails in
    let ended = ended_depth n.names other in
    subst (λ (x : Data). depth x ≤ 127) (sym is) (omega arith)
found_depth n claims inputs events (NotAllowed place) d is =
    let words = strings_depth (map (claim_words n.names) claims) in subst (λ (x : Data). depth x ≤ 127) (sym is) (omega arith)
found_depth n claims inputs events Memory d is = absurd is

-- a task that ended otherwise is the graph's
pub other_task : (g : TaskGraph) (inputs : List Bool) (h : List Event) (ended : List (TaskId × Final)) (other : Option OtherEnd) → FirstOtherEnd g inputs h ended other → IfSome other (λ end. is_task g end.task.0)
other_task g inputs h ended None all = tt
other_task g inputs h ended (Some end) is = is.task
