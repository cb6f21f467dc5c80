-- The work statements of bodies stand in the order of the sites.
use Rattle.std.proofs.Common.{◌≡◌, ℕ, zero, suc, ◌+◌, ◌<◌, Bool, ◌++◌, List, [], ◌∷◌, length, flat_map, sym, ap, ◌∙◌, arith, ⊎_elim}
use Rattle.std.specs.Prelude.{Some, slice_get, slice_index_or}
use Rattle.std.proofs.lemmas.Option.{slice_get_within}
use Rattle.tpl_model.specs.Statements.{Statement, Statements, sites, sites_of}
use Rattle.tpl_model.specs.Statements as script
use Rattle.tpl_model.specs.Graph as graph
use Rattle.tpl_model.specs.Graph.{body}
use Rattle.tpl_graph.specs.Kept.{IsNamedGraph}
use Rattle.tpl_draft.specs.Named.{Named, may_fails, may_fails_of, all_may_fail, numbers_from}
use Rattle.tpl_graph.specs.Sites.{HasWork, IsWork}
use Rattle.tpl_graph.proofs.OwnerLemmas.{as_many, as_many_in}
use Rattle.tpl_graph.proofs.ReaderLemmas.{length-numbers_from}
use Rattle.tpl_graph.proofs.SiteReaders.{number_at, empty}

-- the site and its answer stand at one place of two lists
abbrev StandAt : (site : ℕ) → (may_fail : Bool) → List ℕ → List Bool → Type 0
StandAt s m ss ms = (i : ℕ) × (slice_get ss i ≡ Some s) × (slice_get ms i ≡ Some m)

pub at_left : {A : Type 0} (xs ys : List A) (i : ℕ) (x : A) → slice_get xs i ≡ Some x → slice_get (xs ++ ys) i ≡ Some x
at_left [] ys i x at = absurd (cc)
at_left (z ∷ xs) ys zero x at = at
at_left (z ∷ xs) ys (suc i) x at = at_left xs ys i x at

at_right : {A : Type 0} (xs ys : List A) (i : ℕ) → slice_get (xs ++ ys) (length xs + i) ≡ slice_get ys i
at_right [] ys i = let same : 0 + i ≡ i = omega arith in ap (slice_get ys) same
at_right (z ∷ xs) ys i = let same : suc (length xs) + i ≡ suc (length xs + i) = omega arith in ap (slice_get (z ∷ (xs ++ ys))) same ∙ at_right xs ys i

stand_left : (s : ℕ) (m : Bool) (ss ss' : List ℕ) (ms ms' : List Bool) → StandAt s m ss ms → StandAt s m (ss ++ ss') (ms ++ ms')
stand_left s m ss ss' ms ms' at = (at.0, at_left ss ss' at.0 s at.1, at_left ms ms' at.0 m at.2)

stand_right : (s : ℕ) (m : Bool) (ss ss' : List ℕ) (ms ms' : List Bool) → length ms ≡ length ss → StandAt s m ss' ms' → StandAt s m (ss ++ ss') (ms ++ ms')
stand_right s m ss ss' ms ms' long at =
    let same : length ss + at.0 ≡ length ms + at.0 = omega (arith, long) in
    (length ss + at.0, at_right ss ss' at.0 ∙ at.1, ap (slice_get (ms ++ ms')) same ∙ (at_right ms ms' at.0 ∙ at.2))

mutual
  stand_in : (s : ℕ) (m : Bool) (b : Statements) → HasWork s m b → StandAt s m (sites b) (may_fails b)
  stand_in s m script.Nothing has = absurd has
  stand_in s m (script.◌⨾◌ x rest) has = ⊎_elim
      (λ here. stand_left s m (sites_of x) (sites rest) (may_fails_of x) (may_fails rest) (stand_here s m x here))
      (λ there. stand_right s m (sites_of x) (sites rest) (may_fails_of x) (may_fails rest) (as_many_in x) (stand_in s m rest there))
      has

  stand_here : (s : ℕ) (m : Bool) (x : Statement) → IsWork s m x → StandAt s m (sites_of x) (may_fails_of x)
  stand_here s m (script.Work site fails) is = (0, ap Some is.0, ap Some is.1)
  stand_here s m (script.If i a b) is = ⊎_elim
      (λ first. stand_left s m (sites a) (sites b) (may_fails a) (may_fails b) (stand_in s m a first))
      (λ second. stand_right s m (sites a) (sites b) (may_fails a) (may_fails b) (as_many a) (stand_in s m b second))
      is
  stand_here s m (script.When f a b) is = ⊎_elim
      (λ first. stand_left s m (sites a) (sites b) (may_fails a) (may_fails b) (stand_in s m a first))
      (λ second. stand_right s m (sites a) (sites b) (may_fails a) (may_fails b) (as_many a) (stand_in s m b second))
      is
  stand_here s m _ is = absurd is

stand_all : (s : ℕ) (m : Bool) (ts : List graph.Task) (t : ℕ) → HasWork s m (slice_index_or ts t empty).body → StandAt s m (flat_map (λ (x : graph.Task). sites x.body) ts) (flat_map (λ (x : graph.Task). may_fails x.body) ts)
stand_all s m [] t has = absurd has
stand_all s m (x ∷ ts) zero has = stand_left s m (sites x.body) (flat_map (λ (y : graph.Task). sites y.body) ts) (may_fails x.body) (flat_map (λ (y : graph.Task). may_fails y.body) ts) (stand_in s m x.body has)
stand_all s m (x ∷ ts) (suc t) has = stand_right s m (sites x.body) (flat_map (λ (y : graph.Task). sites y.body) ts) (may_fails x.body) (flat_map (λ (y : graph.Task). may_fails y.body) ts) (as_many x.body) (stand_all s m ts t has)

-- each work statement is listed under its site
pub is_listed : (n : Named) (t s : ℕ) (m : Bool) → IsNamedGraph n → HasWork s m (body n.graph t) → slice_get (all_may_fail n.graph) s ≡ Some m
is_listed n t s m is has =
    let at = stand_all s m n.graph.tasks t has in
    let here : slice_get (numbers_from 0 (length n.names.sites)) at.0 ≡ Some s = ap (λ l. slice_get l at.0) (sym is.sites_in_order) ∙ at.1 in
    let within : at.0 < length n.names.sites = omega (arith, slice_get_within (numbers_from 0 (length n.names.sites)) at.0 s here, length-numbers_from 0 (length n.names.sites)) in
    let number : Some (0 + at.0) ≡ Some s = sym (number_at 0 (length n.names.sites) at.0 within) ∙ here in
    let place : 0 + at.0 ≡ s = cc in
    let same : s ≡ at.0 = omega (arith, place) in
    ap (slice_get (all_may_fail n.graph)) same ∙ at.2
