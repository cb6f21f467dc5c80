-- One value more that was told.
use Rattle.std.proofs.Common.{◌≡◌, ◌∙◌, ℕ, List, [], ◌∷◌, ◌++◌, length, map, Option, Err, ap, ap₂, refl, sym, subst}
use Rattle.std.proofs.lemmas.List.{length-map, map_push}
use Rattle.tpl_journal.specs.declared.counting.Counting.{Counting}
use Rattle.tpl_journal.specs.Writing.{StopsIn, Writes}
use Rattle.tpl_journal.proofs.PartLemmas.{nothing_written, then_text, then_written}
use Rattle.tpl_series.specs.declared.stop.Stop.{Stop}
use Rattle.tpl_series.specs.declared.stop.Stop.TheVariants.{Memory, Device}
use Rattle.tpl_series.specs.Told.{HasKept, HasTold, IsHalted, IsStopped, TellsNext}

-- a write failed behind a text
pub stops_behind : {W : Type 0} (contents : W → Option (List ℕ)) (a b c : Counting W) (xs ys : List ℕ) → Writes contents a b xs → StopsIn contents b c ys → StopsIn contents a c (xs ++ ys)
stops_behind contents a b c xs ys first stop =
    (then_text contents a b c xs ys (Err (record {})) first (record { ok = tt; err = stop })).err

module _ {V W : Type 0} (tells : List V → List ℕ → Type 0) (contents : W → Option (List ℕ)) where
  pub stopped_at_once : (to : Counting W) → tells [] [] → IsStopped tells contents to to Memory
  stopped_at_once to begins = ([], record { text = []; told = begins; writes = nothing_written contents to })

module _ {V K W : Type 0} (tells : List V → List ℕ → Type 0) (keep : V → K) (contents : W → Option (List ℕ)) where
  -- nothing was told yet
  pub told_nothing : (to : Counting W) → tells [] [] → HasKept tells keep contents to to []
  told_nothing to begins = record { values = []; are = refl; told = record { text = []; told = begins; writes = nothing_written contents to } }

  -- as many values were told as there are things kept
  as_many : (kept : List K) (values : List V) (place : ℕ) → place ≡ length kept → kept ≡ map keep values → length values ≡ place
  as_many kept values place at are = sym (at ∙ (ap length are ∙ length-map values keep))

  -- the value at the next place was told
  pub told_next : (start old new : Counting W) (kept : List K) (one : K) (place : ℕ) → place ≡ length kept → (next : TellsNext tells keep place contents old new one) → (so_far : HasKept tells keep contents start old kept) → HasTold tells contents start new (so_far.values ++ next.value ∷ [])
  told_next start old new kept one place at next so_far = record {
    text = so_far.told.text ++ next.text;
    told = next.next so_far.values so_far.told.text (as_many kept so_far.values place at so_far.are) so_far.told.told;
    writes = then_written contents start old new so_far.told.text next.text so_far.told.writes next.writes;
  }

  pub told_more : (start old new : Counting W) (kept more : List K) (one : K) (place : ℕ) → place ≡ length kept → more ≡ kept ++ one ∷ [] → TellsNext tells keep place contents old new one → HasKept tells keep contents start old kept → HasKept tells keep contents start new more
  told_more start old new kept more one place at is next so_far = record {
    values = so_far.values ++ next.value ∷ [];
    are = is ∙ (ap₂ (λ (ks : List K) (k : K). ks ++ k ∷ []) so_far.are next.is ∙ sym (map_push keep so_far.values next.value));
    told = told_next start old new kept one place at next so_far;
  }

  -- the value at the next place was told, and there is no memory for what is kept of it
  pub lost : (start old new : Counting W) (kept : List K) (one : K) (place : ℕ) → place ≡ length kept → TellsNext tells keep place contents old new one → HasKept tells keep contents start old kept → IsStopped tells contents start new Memory
  lost start old new kept one place at next so_far =
      (so_far.values ++ next.value ∷ [], told_next start old new kept one place at next so_far)

  -- no value was told at the next place
  pub halted : (start old new : Counting W) (kept : List K) (place : ℕ) (stop : Stop) → place ≡ length kept → IsHalted tells place contents old new stop → HasKept tells keep contents start old kept → IsStopped tells contents start new stop
  halted start old new kept place Memory at same so_far =
      (so_far.values, subst (λ (w : Counting W). HasTold tells contents start w so_far.values) (sym same) so_far.told)
  halted start old new kept place Device at next so_far = record {
    values = so_far.values ++ next.value ∷ [];
    text = so_far.told.text ++ next.text;
    told = next.next so_far.values so_far.told.text (as_many kept so_far.values place at so_far.are) so_far.told.told;
    stops = stops_behind contents start old new so_far.told.text next.text so_far.told.writes next.stops;
  }
