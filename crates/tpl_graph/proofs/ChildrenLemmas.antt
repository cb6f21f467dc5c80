-- The tables of starts and starters of a draft.
use Rattle.std.proofs.Common.{◌≡◌, ℕ, ◌<◌, List, [], ◌∷◌, length, map, get_or, refl, sym, ap, ◌∙◌, arith}
use Rattle.std.specs.Prelude.{Some}
use Rattle.std.proofs.lemmas.List.{length-map}
use Rattle.std.proofs.lemmas.Option.{slice_get-get_or}
use Rattle.std.specs.declared.vec.Vec.{Vec}
use Rattle.std.specs.declared.alloc.Global.{Global}
use Rattle.tpl_model.specs.declared.ids.TaskId.{TaskId}
use Rattle.tpl_model.specs.Statements.{starts}
use Rattle.tpl_model.specs.Graph as graph
use Rattle.tpl_draft.specs.declared.draft.DraftTask.{DraftTask}
use Rattle.tpl_draft.specs.declared.draft.Draft as declared
use Rattle.tpl_draft.specs.declared.starter.Starter.{Starter}
use Rattle.tpl_draft.specs.declared.starter.Starter.TheVariants.{Nobody}
use Rattle.tpl_graph.specs.Collected.{started}
use Rattle.tpl_draft.specs.Draft.{Draft, Task, worked}
use Rattle.tpl_draft.specs.Named.{Names}
use Rattle.tpl_draft.specs.Numbered.{names_of, graph_in, task_in, script_in}
use Rattle.tpl_draft.specs.Refusals.{all_starts, starters_from}
use Rattle.tpl_draft.specs.SeenTasks.{draft_of, task_of}
use Rattle.tpl_graph.specs.Starters.{numbers}
use Rattle.tpl_draft.specs.Test.{starter_of, AreStarters}
use Rattle.tpl_graph.proofs.BodyLaws.{starts_script}

lists_are : (n : Names) (ts : List Task) → map (λ (x : Task). started n.tasks (worked x.kind).body) ts ≡ map (λ (y : graph.Task). starts y.body) (map (task_in n) ts)
lists_are n [] = refl
lists_are n (x ∷ ts) =
    ap (λ l. l ∷ map (λ (y : Task). started n.tasks (worked y.kind).body) ts) (sym (starts_script n (worked x.kind).body))
    ∙ ap (λ l. starts (script_in n (worked x.kind).body) ∷ l) (lists_are n ts)

pub starts_are : (d : declared.Draft) (names : List (List ℕ)) (tasks : List DraftTask) (found : List (Vec TaskId Global)) → names ≡ (names_of (draft_of d)).tasks → tasks ≡ d.tasks.items → map numbers found ≡ map (λ (x : Task). started names (worked x.kind).body) (map task_of tasks) → map numbers found ≡ all_starts (graph_in (names_of (draft_of d)) (draft_of d))
starts_are d names tasks found of_names of_tasks is =
    is
    ∙ (ap (λ l. map (λ (x : Task). started l (worked x.kind).body) (map task_of tasks)) of_names
    ∙ (ap (λ l. map (λ (x : Task). started (names_of (draft_of d)).tasks (worked x.kind).body) (map task_of l)) of_tasks
    ∙ lists_are (names_of (draft_of d)) (draft_of d).tasks))

pub starters_are : (d : Draft) (found : List (Vec TaskId Global)) (table : List Starter) → map numbers found ≡ all_starts (graph_in (names_of d) d) → length table ≡ length found → ((t : ℕ) → t < length found → get_or table t Nobody ≡ starter_of (starters_from t 0 (map numbers found))) → AreStarters d table
starters_are d found table is long each t lt =
    let as_many : length found ≡ length d.tasks = sym (length-map found numbers) ∙ (ap length is ∙ (length-map (map (task_in (names_of d)) d.tasks) (λ (y : graph.Task). starts y.body) ∙ length-map d.tasks (task_in (names_of d)))) in
    slice_get-get_or table t Nobody (omega arith)
    ∙ ap Some (each t (omega arith) ∙ ap (λ l. starter_of (starters_from t 0 l)) is)

pub as_many_starts : (tasks : List DraftTask) (names : List (List ℕ)) (found : List (Vec TaskId Global)) → map numbers found ≡ map (λ (x : Task). started names (worked x.kind).body) (map task_of tasks) → length found ≡ length tasks
as_many_starts tasks names found is =
    sym (length-map found numbers) ∙ (ap length is ∙ (length-map (map task_of tasks) (λ (x : Task). started names (worked x.kind).body) ∙ length-map tasks task_of))
