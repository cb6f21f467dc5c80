-- The tables of requested tokens.
use Rattle.std.proofs.Common.{◌≡◌, ℕ, zero, suc, ◌<◌, ◌||◌, Bool, false, List, [], ◌∷◌, length, Option, None, refl, sym, ap, ◌∙◌, arith, subst}
use Rattle.std.specs.Prelude.{slice_index_or}
use Rattle.std.proofs.Math.Path.{fun_ext}
use Rattle.tpl_model.specs.declared.event.Act.{Act}
use Rattle.tpl_model.specs.declared.event.Act.TheVariants.{Request, Release, Begin, Step, Worked, Leave, Close, Drop, Settle}
use Rattle.tpl_model.specs.declared.event.Event.{Event}
use Rattle.tpl_model.specs.Graph.{TaskGraph, sources, some_in, through, within, is_token}
use Rattle.tpl_model.specs.Facts.{requested, requested_itself, requests, starts_by, rest, ending}
use Rattle.tpl_model.specs.Valid.{IsGraph}
use Rattle.tpl_run.specs.Rows.{is_it}
use Rattle.tpl_draft.specs.Named.{Named}
use Rattle.tpl_run.specs.Journal.{Journal, opened, after}
use Rattle.tpl_fast.specs.declared.marks.Mark.{Mark}
use Rattle.tpl_fast.specs.Marks.{AreMarks}
use Rattle.tpl_run.specs.Tokens.{IsTable}
use Rattle.tpl_machine.proofs.StepLemmas.{next_is}
use Rattle.tpl_fast.specs.Tokens.{asks, starting, AreAsked}
use Rattle.tpl_fast.specs.Kept.{AreEnded, AreOver, AreFound, IsKept}

-- where no token was requested itself since, none is requested
pub asked_still : (g : TaskGraph) (v : List Bool) (h later : List Event) (itself closed : List Bool) → AreAsked g v h itself closed → ((k : ℕ) → requested_itself g v later k ≡ requested_itself g v h k) → AreAsked g v later itself closed
asked_still g v h later itself closed a same = record {
  each_itself = λ k within. a.each_itself k within ∙ sym (same k);
  each = λ k within. a.each k within ∙ ap (λ (f : ℕ → Bool). through g f k) (sym (fun_ext same));
  itself_count = a.itself_count;
  count = a.count;
}

pub asked_also : (g : TaskGraph) (v : List Bool) (h later : List Event) (itself itself' closed closed' : List Bool) (token : Option ℕ) → IsGraph g → AreAsked g v h itself closed → ((k : ℕ) → requested_itself g v later k ≡ (is_it token k || requested_itself g v h k)) → ((k : ℕ) → k < 32 → slice_index_or itself' k false ≡ (is_it token k || slice_index_or itself k false)) → length itself' ≡ length itself → (IsTable g v later itself' 0 → IsTable g v later closed' (length g.tokens)) → AreAsked g v later itself' closed'
asked_also g v h later itself itself' closed closed' token valid a more marks count closes =
    let each : (k : ℕ) → is_token g k → slice_index_or itself' k false ≡ requested_itself g v later k = λ k within. marks k (let few = valid.tokens in omega arith) ∙ (ap (λ b. is_it token k || b) (a.each_itself k within) ∙ sym (more k)) in
    let long : length itself' ≡ 32 = count ∙ a.itself_count in
    let table : IsTable g v later closed' (length g.tokens) = closes (record { below = λ k (lt : k < 0). absurd (omega arith); above = λ k le within. each k within; count = long }) in
    record { each_itself = each; each = table.below; itself_count = long; count = table.count }

-- the token that an act requests, and the child that it starts
pub act_is : (g : TaskGraph) (v : List Bool) (h : List Event) (k : ℕ) (act : Act) → (requests k act (rest g v h) ≡ is_it (asks act (rest g v h)) k) × (starts_by k act (rest g v h) ≡ is_it (starting act (rest g v h)) k)
act_is g v h k (Step t) = let n = next_is g v t.0 (rest g v h t.0).left (requested g v h) (ending g v h) k in (sym n.1, sym n.2)
act_is g v h k (Request j) = (refl, refl)
act_is g v h k (Release t) = (refl, refl)
act_is g v h k (Begin t) = (refl, refl)
act_is g v h k (Worked t x) = (refl, refl)
act_is g v h k (Leave t) = (refl, refl)
act_is g v h k (Close t) = (refl, refl)
act_is g v h k (Drop t) = (refl, refl)
act_is g v h k (Settle t) = (refl, refl)

-- one more event requests what it asks
pub itself_after : (g : TaskGraph) (v : List Bool) (h : List Event) (e : Event) (token : Option ℕ) → token ≡ asks e.act (rest g v h) → (k : ℕ) → requested_itself g v (e ∷ h) k ≡ (is_it token k || requested_itself g v h k)
itself_after g v h e token is k = ap (λ b. b || requested_itself g v h k) ((act_is g v h k e.act).0 ∙ ap (λ o. is_it o k) (sym is))

none_in : (f : ℕ → Bool) (xs : List ℕ) → ((k : ℕ) → f k ≡ false) → some_in f xs ≡ false
none_in f [] quiet = refl
none_in f (x ∷ xs) quiet = ap (λ b. b || some_in f xs) (quiet x) ∙ none_in f xs quiet

none_within : (g : TaskGraph) (f : ℕ → Bool) (n k : ℕ) → ((j : ℕ) → f j ≡ false) → within g f n k ≡ false
none_within g f zero k quiet = quiet k
none_within g f (suc n) k quiet = ap (λ b. b || some_in (within g f n) (sources g k)) (quiet k) ∙ none_in (within g f n) (sources g k) (λ j. none_within g f n j quiet)

-- before the first event
asked_none : (g : TaskGraph) (v : List Bool) (itself closed : List Bool) → length itself ≡ 32 → length closed ≡ 32 → ((k : ℕ) → slice_index_or itself k false ≡ false) → ((k : ℕ) → slice_index_or closed k false ≡ false) → AreAsked g v [] itself closed
asked_none g v itself closed many many' off off' = record {
  each_itself = λ k within. off k;
  each = λ k within. off' k ∙ sym (none_within g (requested_itself g v []) (length g.tokens) k (λ j. refl));
  itself_count = many;
  count = many';
}

pub kept_open : (j : Journal) (n : Named) (v : List Bool) (list : List Mark) (itself closed : List Bool) (ended over : List ℕ) (found : List Bool) → j ≡ opened n v → AreMarks (length n.graph.tasks) [] list → length itself ≡ 32 → length closed ≡ 32 → ((k : ℕ) → slice_index_or itself k false ≡ false) → ((k : ℕ) → slice_index_or closed k false ≡ false) → AreEnded (opened n v) ended → AreOver (opened n v) over → AreFound (opened n v) found → IsKept j n list itself closed ended over found
kept_open j n v list itself closed ended over found is marks many many' off off' ended_so_far over_so_far found_so_far =
    subst (λ (x : Journal). IsKept x n list itself closed ended over found) (sym is)
    (record { graph = refl; names = refl; marks = marks; tokens = asked_none n.graph v itself closed many many' off off'; ended = ended_so_far; over = over_so_far; found = found_so_far })

tokens_after : (g g' : TaskGraph) (v : List Bool) (h : List Event) (e : Event) (token : Option ℕ) (itself itself' closed closed' : List Bool) → g' ≡ g → ((v : List Bool) (h later : List Event) → AreAsked g' v h itself closed → ((k : ℕ) → requested_itself g' v later k ≡ (is_it token k || requested_itself g' v h k)) → AreAsked g' v later itself' closed') → token ≡ asks e.act (rest g v h) → AreAsked g v h itself closed → AreAsked g v (e ∷ h) itself' closed'
tokens_after g g' v h e token itself itself' closed closed' same ask =
    subst (λ (x : TaskGraph). token ≡ asks e.act (rest x v h) → AreAsked x v h itself closed → AreAsked x v (e ∷ h) itself' closed') same
    (λ is a. ask v h (e ∷ h) a (itself_after g' v h e token is))

-- what is kept, one event later
pub kept_after : (j : Journal) (n : Named) (list list' : List Mark) (itself itself' closed closed' : List Bool) (ended over over' : List ℕ) (found : List Bool) (e : Event) (token : Option ℕ) (place : ℕ) → IsKept j n list itself closed ended over found → place ≡ suc (length j.events) → token ≡ asks e.act (rest j.graph j.inputs j.events) → ((m : ℕ) (h : List Event) → place ≡ suc (length h) → AreMarks m h list → AreMarks m (e ∷ h) list') → ((v : List Bool) (h later : List Event) → AreAsked n.graph v h itself closed → ((k : ℕ) → requested_itself n.graph v later k ≡ (is_it token k || requested_itself n.graph v h k)) → AreAsked n.graph v later itself' closed') → AreEnded (after j e) ended → AreOver (after j e) over' → AreFound (after j e) found → IsKept (after j e) n list' itself' closed' ended over' found
kept_after j n list list' itself itself' closed closed' ended over over' found e token place k place_is token_is notes ask ended_now over_now found_now = record {
  graph = k.graph;
  names = k.names;
  marks = notes (length j.graph.tasks) j.events place_is k.marks;
  tokens = tokens_after j.graph n.graph j.inputs j.events e token itself itself' closed closed' k.graph ask token_is k.tokens;
  ended = ended_now;
  over = over_now;
  found = found_now;
}

-- an event that requests no token itself requests none through a link
pub requested_same : (g : TaskGraph) (v : List Bool) (h : List Event) (e : Event) → asks e.act (rest g v h) ≡ None → (k : ℕ) → requested g v (e ∷ h) k ≡ requested g v h k
requested_same g v h e none k = ap (λ f. within g f (length g.tokens) k) (fun_ext (λ j. itself_after g v h e None (sym none) j))
