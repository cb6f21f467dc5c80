-- Who made a run, and what was requested of it first.
use Rattle.std.specs.Prelude.{◌≡◌, ℕ, Bool, true, false, ◌||◌, List, [], ◌∷◌, ◌++◌, Option, Some, None, map, reverse, nat_eq}
use Rattle.std.specs.List.{All}
use Rattle.tpl_model.specs.declared.status.Actor.{Actor}
use Rattle.tpl_model.specs.declared.status.Actor.TheVariants.{Outside}
use Rattle.tpl_model.specs.declared.event.Act.{Act}
use Rattle.tpl_model.specs.declared.event.Act.TheVariants.{Request}
use Rattle.tpl_model.specs.declared.event.Event.{Event}
use Rattle.tpl_model.specs.Graph.{TaskGraph, through}
use Rattle.tpl_model.specs.Facts.{requested}
use Rattle.tpl_hall.specs.declared.sight.Ended.{Ended}
use Rattle.tpl_hall.specs.Closes.{AllOwn, AllLast}
use Rattle.tpl_hall.specs.Lists.{all_seated}
use Rattle.tpl_hall.specs.Views.{SeatView}
use Rattle.tpl_reader.specs.Begin.{StartValue}
use Rattle.tpl_runtime.specs.Workers.{workers as first_workers, HasWorked}

-- the tokens that a start requests first
abbrev pub requests_of : Option StartValue → List ℕ
requests_of None = []
requests_of (Some start) = start.request

-- the outside seat that requests them
abbrev pub asker : Actor
asker = Outside 1

-- the act requests the token from outside
abbrev pub is_request : ℕ → Act → Bool
is_request k (Request j) = nat_eq j.0 k
is_request k act = false

-- one of these events requests the token from outside
abbrev pub asks : List (ℕ × Event) → ℕ → Bool
asks [] k = false
asks (x ∷ xs) k = is_request k x.1.act || asks xs k

-- these events request the token or, repeatedly, one of its sources
abbrev pub HasAsked : TaskGraph → List (ℕ × Event) → ℕ → Type 0
HasAsked g mine k = through g (asks mine) k ≡ true

-- the new list begins with the old one
abbrev pub GoesOn : (old new : List (ℕ × Event)) → Type 0
GoesOn old new = (added : List (ℕ × Event)) × (new ≡ old ++ added)

-- the seats before a run: the asker's alone, which has requested these tokens
pub record HaveAsked (g : TaskGraph) (tokens : List ℕ) (seats : List SeatView) : Type 0 where
  pub seat : SeatView
  pub alone : seats ≡ seat ∷ []
  pub actor : seat.actor ≡ asker
  pub asked : All (HasAsked g seat.mine) tokens

-- the seats after a run by n workers: the asker's, which has requested these tokens, and those of the workers 1 to n, each as its worker left it
pub record HaveRun (g : TaskGraph) (v : List Bool) (n : ℕ) (tokens : List ℕ) (seats : List SeatView) : Type 0 where
  pub seat : SeatView
  pub done : List (SeatView × Ended)
  pub all : seats ≡ seat ∷ map (λ d. d.0) done
  pub actor : seat.actor ≡ asker
  pub asked : All (HasAsked g seat.mine) tokens
  pub workers : map (λ d. d.0.actor) done ≡ first_workers n
  pub worked : All (λ d. HasWorked g v d.0 d.1) done

-- Who made a run, the first event first: the asker and the workers 1 to n, each of which came back as its work ended. The list of each is what it did in the run, what was last reported to it is true of the run's first events, and nobody else did anything. Each of the tokens was requested.
pub record IsMadeBy (g : TaskGraph) (v : List Bool) (n : ℕ) (tokens : List ℕ) (journal : List Event) : Type 0 where
  pub seat : SeatView
  pub done : List (SeatView × Ended)
  pub actor : seat.actor ≡ asker
  pub workers : map (λ d. d.0.actor) done ≡ first_workers n
  pub worked : All (λ d. HasWorked g v d.0 d.1) done
  pub own : AllOwn (seat ∷ map (λ d. d.0) done) journal
  pub last : AllLast g v (seat ∷ map (λ d. d.0) done) journal
  pub alone : all_seated journal (map (λ s. s.actor) (seat ∷ map (λ d. d.0) done)) ≡ true
  pub requested : All (λ k. requested g v (reverse journal) k ≡ true) tokens
