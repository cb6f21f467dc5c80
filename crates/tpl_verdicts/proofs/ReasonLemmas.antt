-- What a reason names is a task.
use Rattle.std.proofs.Common.{ℕ, inl, inr, List, [], ◌∷◌, subst, sym, arith}
use Rattle.std.specs.List.{AllByRecursion}
use Rattle.std.proofs.lemmas.List.Elements.{recursion_from_All}
use Rattle.tpl_graph.specs.Fits.{Fits, IsGivenOf, TasksOf}
use Rattle.tpl_model.specs.Claims.{Claim}
use Rattle.tpl_model.specs.Graph.{TaskGraph, is_task}
use Rattle.tpl_model.specs.declared.ids.TaskId.{TaskId}
use Rattle.tpl_model.specs.declared.claim.Given.{Given}
use Rattle.tpl_model.specs.declared.claim.Given.TheVariants.{Input, Quiet, Ended, Succeeds}
use Rattle.tpl_model.specs.declared.claim.Property.{Property}
use Rattle.tpl_model.specs.declared.claim.Property.TheVariants.{Final as EndsIn, After, Observed, Never, Excludes, Runs}
use Rattle.tpl_verify.specs.Verdicts.{IsEndGiven, NeedsBegin, SpeaksOfBegin, SpeaksOfEnd}

-- a task of whose begin a property speaks is one of which it speaks
spoken_task : (g : TaskGraph) (body : Property TaskId) (t : ℕ) → TasksOf g body → SpeaksOfBegin body t → is_task g t
spoken_task = grind arith

pub begun_task : (g : TaskGraph) (claim : Claim) (t : ℕ) → Fits g claim → NeedsBegin g claim t → is_task g t
begun_task g claim t fits needs = spoken_task g claim.body t fits.tasks needs.speaks

-- a task whose end is given is one of the graph
given_task : (g : TaskGraph) (given : List Given) (t : ℕ) → AllByRecursion (IsGivenOf g) given → IsEndGiven given t → is_task g t
given_task g [] t all is = absurd is
given_task g (Input i value ∷ given) t all is = given_task g given t all.1 is
given_task g (Quiet k ∷ given) t all is = given_task g given t all.1 is
given_task g (Ended s ends ∷ given) t all is =
    elim is [ inl e ↦ subst (λ (z : ℕ). is_task g z) e all.0 | inr more ↦ given_task g given t all.1 more ]
given_task g (Succeeds site ∷ given) t all is = given_task g given t all.1 is

pub ended_task : (g : TaskGraph) (claim : Claim) (t : ℕ) → Fits g claim → IsEndGiven claim.given t → is_task g t
ended_task g claim t fits is = given_task g claim.given t (recursion_from_All (IsGivenOf g) claim.given fits.given) is

-- a task of whose end alone a property speaks is one of which it speaks
own_task : (g : TaskGraph) (body : Property TaskId) (t : TaskId) → TasksOf g body → SpeaksOfEnd body t → is_task g t.0
own_task g (EndsIn s ends) t tasks is = subst (λ (z : TaskId). is_task g z.0) (sym is) tasks
own_task g (After a b) t tasks is = absurd is
own_task g (Observed s) t tasks is = absurd is
own_task g (Never s) t tasks is = absurd is
own_task g (Excludes a b) t tasks is = absurd is
own_task g (Runs s) t tasks is = absurd is

pub endless_task : (g : TaskGraph) (claim : Claim) (t : TaskId) → Fits g claim → SpeaksOfEnd claim.body t → is_task g t.0
endless_task g claim t fits is = own_task g claim.body t fits.tasks is
