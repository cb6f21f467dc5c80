-- The ids in what is left of a body are the graph's.
use Rattle.std.proofs.Common.{◌≡◌, ℕ, Bool, true, false, List, [], ◌∷◌, Option, Some, nat_eq, subst}
use Rattle.std.specs.Prelude.{if◌then◌else◌, slice_index_or}
use Rattle.tpl_model.specs.declared.status.Answer.{Answer}
use Rattle.tpl_model.specs.declared.status.Answer.TheVariants.{Done, Failed}
use Rattle.tpl_model.specs.Statements.{Statements, Return, Throw, Check, Cancel, Start, Observe, Work, If, When, Nothing, ◌⨾◌, followed_by}
use Rattle.tpl_model.specs.Paths.{cancellation}
use Rattle.tpl_model.specs.declared.event.Act.{Act}
use Rattle.tpl_model.specs.declared.event.Act.TheVariants.{Request, Release, Begin, Step, Worked, Leave, Close, Drop, Settle}
use Rattle.tpl_model.specs.declared.event.Event.{Event}
use Rattle.tpl_model.specs.Graph.{TaskGraph, kind, body, task, through, is_task, is_token}
use Rattle.tpl_model.specs.Facts.{Rest, Ending, on, over, stepped, worked, rest_after, rest, requested_itself, ending, subject_in, has_final}
use Rattle.tpl_model.specs.Valid.{IdsOf}
use Rattle.tpl_run.specs.Body.{cancel_of, start_of}

ids_followed : (g : TaskGraph) (a b : Statements) → IdsOf g a → IdsOf g b → IdsOf g (followed_by a b)
ids_followed g Nothing b p q = q
ids_followed g (s ⨾ a) b p q = (p.0, ids_followed g a b p.1 q)

ids_if : (g : TaskGraph) (b : Bool) (x y : Statements) → IdsOf g x → IdsOf g y → IdsOf g (if b then x else y)
ids_if g true x y p q = p
ids_if g false x y p q = q

ids_rest_if : (g : TaskGraph) (b : Bool) (x y : Rest) → IdsOf g x.left → IdsOf g y.left → IdsOf g (if b then x else y).left
ids_rest_if g true x y p q = p
ids_rest_if g false x y p q = q

ids_step : (g : TaskGraph) (v : List Bool) (t : ℕ) (left : Statements) (asked : ℕ → Bool) (ends : ℕ → Option Ending) → IdsOf g left → IdsOf g (stepped g v t left asked ends).left
ids_step g v t Nothing asked ends p = tt
ids_step g v t (Return ⨾ more) asked ends p = tt
ids_step g v t (Throw l ⨾ more) asked ends p = tt
ids_step g v t (Check k ⨾ more) asked ends p = ids_rest_if g (asked k) (over (cancellation (task g t).token k)) (on more) tt p.1
ids_step g v t (Cancel k ⨾ more) asked ends p = p.1
ids_step g v t (Start c ⨾ more) asked ends p = p.1
ids_step g v t (Observe ⨾ more) asked ends p = p.1
ids_step g v t (Work s f ⨾ more) asked ends p = p
ids_step g v t (If i a b ⨾ more) asked ends p = ids_followed g (if slice_index_or v i false then a else b) more (ids_if g (slice_index_or v i false) a b p.0.1 p.0.2) p.1
ids_step g v t (When f a b ⨾ more) asked ends p = ids_followed g (if has_final f ends (subject_in g (kind g t) ends) then a else b) more (ids_if g (has_final f ends (subject_in g (kind g t) ends)) a b p.0.0 p.0.1) p.1

ids_worked : (g : TaskGraph) (answer : Answer) (left : Statements) → IdsOf g left → IdsOf g (worked answer left).left
ids_worked g Done Nothing p = tt
ids_worked g Done (s ⨾ more) p = p.1
ids_worked g Failed Nothing p = tt
ids_worked g Failed (Return ⨾ more) p = p
ids_worked g Failed (Throw l ⨾ more) p = p
ids_worked g Failed (Check k ⨾ more) p = p
ids_worked g Failed (Cancel k ⨾ more) p = p
ids_worked g Failed (Start c ⨾ more) p = p
ids_worked g Failed (Observe ⨾ more) p = p
ids_worked g Failed (Work s f ⨾ more) p = tt
ids_worked g Failed (If i a b ⨾ more) p = p
ids_worked g Failed (When f a b ⨾ more) p = p

ids_after : (g : TaskGraph) (v : List Bool) (t : ℕ) (act : Act) (now : Rest) (asked : ℕ → Bool) (ends : ℕ → Option Ending) → IdsOf g now.left → IdsOf g (rest_after g v t act now asked ends).left
ids_after g v t (Request k) now asked ends p = p
ids_after g v t (Release s) now asked ends p = p
ids_after g v t (Begin s) now asked ends p = p
ids_after g v t (Step s) now asked ends p = ids_rest_if g (nat_eq s.0 t) (stepped g v t now.left asked ends) now (ids_step g v t now.left asked ends p) p
ids_after g v t (Worked s a) now asked ends p = ids_rest_if g (nat_eq s.0 t) (worked a now.left) now (ids_worked g a now.left p) p
ids_after g v t (Leave s) now asked ends p = p
ids_after g v t (Close s) now asked ends p = p
ids_after g v t (Drop s) now asked ends p = p
ids_after g v t (Settle s) now asked ends p = p

pub ids_rest : (g : TaskGraph) (v : List Bool) (h : List Event) (t : ℕ) → IdsOf g (body g t) → IdsOf g (rest g v h t).left
ids_rest g v [] t p = p
ids_rest g v (e ∷ h) t p = ids_after g v t e.act (rest g v h t) (through g (requested_itself g v h)) (ending g v h) (ids_rest g v h t p)

-- the token that the next statement cancels, and the child that it starts
pub cancel_within : (g : TaskGraph) (left : Statements) (k : ℕ) → IdsOf g left → cancel_of left ≡ Some k → is_token g k
cancel_within g Nothing k p e = cc
cancel_within g (Return ⨾ more) k p e = cc
cancel_within g (Throw l ⨾ more) k p e = cc
cancel_within g (Check j ⨾ more) k p e = cc
cancel_within g (Cancel j ⨾ more) k p e = let same : j ≡ k = cc in subst (λ x. is_token g x) same p.0
cancel_within g (Start d ⨾ more) k p e = cc
cancel_within g (Observe ⨾ more) k p e = cc
cancel_within g (Work s f ⨾ more) k p e = cc
cancel_within g (If i a b ⨾ more) k p e = cc
cancel_within g (When f a b ⨾ more) k p e = cc

pub start_within : (g : TaskGraph) (left : Statements) (c : ℕ) → IdsOf g left → start_of left ≡ Some c → is_task g c
start_within g Nothing c p e = cc
start_within g (Return ⨾ more) c p e = cc
start_within g (Throw l ⨾ more) c p e = cc
start_within g (Check j ⨾ more) c p e = cc
start_within g (Cancel j ⨾ more) c p e = cc
start_within g (Start d ⨾ more) c p e = let same : d ≡ c = cc in subst (λ x. is_task g x) same p.0
start_within g (Observe ⨾ more) c p e = cc
start_within g (Work s f ⨾ more) c p e = cc
start_within g (If i a b ⨾ more) c p e = cc
start_within g (When f a b ⨾ more) c p e = cc
