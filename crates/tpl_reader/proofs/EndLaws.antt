-- The ends that were seen, of one task after another.
use Rattle.std.proofs.Common.{◌≡◌, ℕ, zero, suc, ◌+◌, List, [], ◌∷◌, Option, Some, None, refl, add-one}
use Rattle.std.specs.Prelude.{option_and_then, slice_get}
use Rattle.std.specs.List.{All}
use Rattle.std.proofs.lemmas.List.Elements.{All-push}
use Rattle.serde_json.specs.Data.{Data}
use Rattle.serde_json.specs.Find.{get}
use Rattle.tpl_model.specs.declared.ids.TaskId.{TaskId}
use Rattle.tpl_model.specs.declared.finals.Final.{Final}
use Rattle.tpl_model.specs.Graph.{TaskGraph, is_task}
use Rattle.tpl_json.specs.Finals.{final_at}
use Rattle.tpl_json.proofs.Arrays.{some_is}
use Rattle.tpl_cert.specs.Written.{name_at}
use Rattle.tpl_reader.specs.Ends.{with_end, ends_below}

name_is : (names : List (List ℕ)) (i : ℕ) (name : List ℕ) → slice_get names i ≡ Some name → name_at names i ≡ name
name_is [] i name e = absurd cc
name_is (n ∷ names) zero name e = some_is n name e
name_is (n ∷ names) (suc i) name e = name_is names i name e

pub ends_more : (tasks : List (List ℕ)) (d : Data) (t : ℕ) (name : List ℕ) (o : Option Final) (ends : List (TaskId × Final)) → slice_get tasks t ≡ Some name → ends ≡ ends_below tasks d t → o ≡ option_and_then final_at (get name d)
    → with_end (record { 0 = t }) o ends ≡ ends_below tasks d (t + 1)
ends_more tasks d t name o ends named before is = rw (before, is, ← name_is tasks t name named, add-one) refl

-- where each end so far is of a task of the graph, so is each with the next one
pub ends_of_tasks : (g : TaskGraph) (t : ℕ) (o : Option Final) (ends : List (TaskId × Final)) → is_task g t → All (λ said. is_task g said.0.0) ends
    → All (λ said. is_task g said.0.0) (with_end (record { 0 = t }) o ends)
ends_of_tasks g t None ends is each = each
ends_of_tasks g t (Some final) ends is each = All-push (λ said. is_task g said.0.0) ends (record { 0 = t }, final) each is
