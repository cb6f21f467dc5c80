-- What tests that compute say of graphs and stories, for the proofs of the examples.
use Rattle.std.proofs.Common.{◌≡◌, Bool, true, false, List, [], ◌∷◌}
use Rattle.tpl_model.specs.Graph.{TaskGraph}
use Rattle.tpl_model.specs.declared.event.Event.{Event}
use Rattle.tpl_model.specs.Valid.{IsGraph}
use Rattle.tpl_laws.specs.RunTests.{is_settled, is_complete, is_given}
use Rattle.tpl_laws.specs.ClaimTests.{holds as passes}
use Rattle.tpl_laws.proofs.RunsDecided.{settled_lem, complete_lem, given_lem}
use Rattle.tpl_laws.proofs.ClaimsDecided.{holds_lem}
use Rattle.tpl_examples.specs.Words.{event}
use Rattle.tpl_examples.specs.Stories.{Fact, could, settled, unsettled, complete, incomplete, given, not_given, holds, fails, Plot, the_end, ◌⇒◌, ◌&◌, MayCome, Means, GoesOn, Story}
use Rattle.tpl_examples.proofs.ValidDecided.{graph}

contradicts : {P : Type 0} (b : Bool) → (P → b ≡ true) → b ≡ false → P → ⊥
contradicts b test e p = let t : b ≡ true = test p in absurd (cc)

pub valid : (g : TaskGraph) → (graph g).answer ≡ true → IsGraph g
valid g e = (graph g).means.0 e

pub invalid : (g : TaskGraph) → (graph g).answer ≡ false → IsGraph g → ⊥
invalid g e = contradicts (graph g).answer (graph g).means.1 e

abbrev mutual
  -- what is to be computed for a fact: the test where there is one, and else the fact itself
  Shows : TaskGraph → List Bool → List Event → Fact → Type 0
  Shows g v h (could plot) = Plays g v h plot
  Shows g v h (settled t) = is_settled g v h t ≡ true
  Shows g v h (unsettled t) = is_settled g v h t ≡ false
  Shows g v h complete = is_complete g v h ≡ true
  Shows g v h incomplete = is_complete g v h ≡ false
  Shows g v h (given givens) = is_given g v h givens ≡ true
  Shows g v h (not_given givens) = is_given g v h givens ≡ false
  Shows g v h (holds claim) = passes g claim v h ≡ true
  Shows g v h (fails claim) = passes g claim v h ≡ false
  Shows g v h fact = Means g v h fact

  -- and for a story
  Plays : TaskGraph → List Bool → List Event → Plot → Type 0
  Plays g v h the_end = Unit {0}
  Plays g v h (deed ⇒ more) = MayCome g v h deed × Plays g v (event deed ∷ h) more
  Plays g v h (fact & more) = Shows g v h fact × Plays g v h more

module _ (g : TaskGraph) (v : List Bool) (is_valid : (graph g).answer ≡ true) where
  mutual
    shown : (h : List Event) (fact : Fact) → Shows g v h fact → Means g v h fact
    shown h (could plot) s = played h plot s
    shown h (settled t) s = (settled_lem g v h t (valid g is_valid)).0 s
    shown h (unsettled t) s = contradicts (is_settled g v h t) (settled_lem g v h t (valid g is_valid)).1 s
    shown h complete s = (complete_lem g v h).0 s
    shown h incomplete s = contradicts (is_complete g v h) (complete_lem g v h).1 s
    shown h (given givens) s = (given_lem g v h givens).0 s
    shown h (not_given givens) s = contradicts (is_given g v h givens) (given_lem g v h givens).1 s
    shown h (holds claim) s = (holds_lem g claim v h (valid g is_valid)).0 s
    shown h (fails claim) s = contradicts (passes g claim v h) (holds_lem g claim v h (valid g is_valid)).1 s
    shown h fact s = s

    played : (h : List Event) (plot : Plot) → Plays g v h plot → GoesOn g v h plot
    played h the_end p = tt
    played h (deed ⇒ more) p = (p.0, played (event deed ∷ h) more p.1)
    played h (fact & more) p = (shown h fact p.0, played h more p.1)

pub story : (g : TaskGraph) (v : List Bool) (plot : Plot) → (graph g).answer ≡ true → Plays g v [] plot → Story g v plot
story g v plot is_valid p = record { graph = valid g is_valid; run = played g v is_valid [] plot p }
