-- What is added to the end of a list, step by step.
use Rattle.std.proofs.Common.{◌≡◌, ℕ, ◌+◌, List, ◌++◌, Option, Some, None, Result, Ok, Err, OnOk, map, refl, ap, ◌∙◌, add-one, append_assoc}
use Rattle.std.specs.Prelude.{is_ok, if◌then◌else◌}
use Rattle.std.specs.Option.{option_map, option_to_list}
use Rattle.tpl_model.specs.declared.ids.TaskId.{TaskId}
use Rattle.tpl_model.specs.declared.ids.TokenId.{TokenId}
use Rattle.tpl_model.specs.Statements.{Statements}
use Rattle.tpl_model.specs.Graph.{TaskGraph, task, kind, body}
use Rattle.tpl_draft.specs.Ids.{task_number, token_number}
use Rattle.tpl_draft.specs.Named.{antecedent_of, args_of}
use Rattle.tpl_draw.specs.declared.edge.Edge.{Edge}
use Rattle.tpl_draw.specs.declared.edge.Tie.TheVariants.{After, Argument, Own}
use Rattle.tpl_draw.specs.Below.{below}
use Rattle.tpl_draw.specs.Edges.{acts, edge_token, from_each, task_edges}

-- first one list is added, then another
pub both_added : {A : Type 0} (old now new first second : List A) → now ≡ old ++ first → new ≡ now ++ second → new ≡ old ++ (first ++ second)
both_added old now new first second e f = f ∙ (ap (λ l. l ++ second) e ∙ append_assoc old first second)

-- what f gives for one number more is added
pub below_added : {A : Type 0} (f : ℕ → List A) (n : ℕ) (old now new : List A) → now ≡ old ++ below f n → new ≡ now ++ f n → new ≡ old ++ below f (n + 1)
below_added f n old now new e h = rw add-one (both_added old now new (below f n) (f n) e h)

-- what is there after a call that may fail
pub added_on_ok : {T E A : Type 0} (r : Result T E) (more old new : List A) → new ≡ (if is_ok r then more else old) → OnOk r (new ≡ more)
added_on_ok (Ok x) more old new e = e
added_on_ok (Err x) more old new e = tt

-- the numbers of what there is, listed
numbers_listed : {A : Type 0} (number : A → ℕ) (o : Option A) → map number (option_to_list o) ≡ option_to_list (option_map number o)
numbers_listed number None = refl
numbers_listed number (Some a) = refl

-- the edges of a task are added: of its token, what it continues, what it waits for, and its body
pub task_edges_added : (g : TaskGraph) (t : ℕ) (token : Option TokenId) (before : Option TaskId) (arguments : List TaskId) (script : Statements) (old own after waits new : List Edge) → option_map token_number token ≡ edge_token g (task g t).token → option_map task_number before ≡ antecedent_of (kind g t) → map task_number arguments ≡ args_of (kind g t) → script ≡ body g t → own ≡ old ++ from_each Own (map token_number (option_to_list token)) t → after ≡ own ++ from_each After (map task_number (option_to_list before)) t → waits ≡ after ++ from_each Argument (map task_number arguments) t → new ≡ waits ++ acts t script → new ≡ old ++ task_edges g t
task_edges_added g t token before arguments script old own after waits new is_token is_before is_arguments is_script e₁ e₂ e₃ e₄ =
    rw (← is_token, ← is_before, ← is_arguments, ← is_script, ← numbers_listed token_number token, ← numbers_listed task_number before)
    (both_added old waits new _ (acts t script)
    (both_added old after waits _ (from_each Argument (map task_number arguments) t)
    (both_added old own after (from_each Own (map token_number (option_to_list token)) t) (from_each After (map task_number (option_to_list before)) t) e₁ e₂) e₃) e₄)
