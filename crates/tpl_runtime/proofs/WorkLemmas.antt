-- A worker that came with a new seat.
use Rattle.std.proofs.Common.{◌≡◌, ◌∙◌, ◌<◌, ℕ, zero, suc, Bool, List, [], ◌∷◌, ◌++◌, length, slice_index_or, refl, sym, subst, arith}
use Rattle.std.specs.Prelude.{All, IfNone, Option, Some, None}
use Rattle.std.specs.Option.{option_or}
use Rattle.std.proofs.lemmas.List.Elements.{All-append}
use Rattle.tpl_model.specs.Graph.{TaskGraph}
use Rattle.tpl_hall.specs.declared.sight.Ended.{Ended}
use Rattle.tpl_hall.specs.declared.sight.Ended.TheVariants.{Complete, Halted, Stray}
use Rattle.tpl_hall.specs.declared.sight.Sight.TheVariants.{Complete as AllDone}
use Rattle.tpl_hall.specs.Growth.{WorksOn}
use Rattle.tpl_hall.specs.Moves.{EndsAs}
use Rattle.tpl_hall.specs.Sights.{IsSeen}
use Rattle.tpl_hall.specs.Stays.{Leaves}
use Rattle.tpl_hall.specs.Views.{SeatView}
use Rattle.tpl_runtime.specs.Workers.{new_seat, IsNew, HasWorked}

ends_new : (ended : Ended) (g : TaskGraph) (v : List Bool) (first seat : SeatView) → first.last ≡ None → EndsAs ended g v first seat → EndsAs ended g v (new_seat seat.actor seat.room) seat
ends_new Complete g v first seat none e = (e.0, e.1, subst (λ l. IsSeen g v seat.mine l AllDone e.0) none e.2)
ends_new Halted g v first seat none e = e ∙ none
ends_new Stray g v first seat none e = e ∙ none

-- what a worker leaves that came with a new seat
pub has_worked : (ended : Ended) (g : TaskGraph) (v : List Bool) (first seat : SeatView) → IsNew first → Leaves ended g v first seat → HasWorked g v seat ended
has_worked ended g v first seat new left =
    record { list = subst (λ l. WorksOn g v l seat.mine) new.0 left.list; last = ends_new ended g v first seat new.1 left.last; room = refl }

all_one : {X : Type 0} (P : X → Type 0) (x : X) → P x → (k : ℕ) (d : X) → k < length (x ∷ []) → P (slice_index_or (x ∷ []) k d)
all_one P x one zero d lt = one
all_one P x one (suc k) d lt = absurd (omega (arith, lt))

-- one element more at the end of a list
pub all_more : {X : Type 0} (P : X → Type 0) (xs now : List X) (x : X) → now ≡ xs ++ x ∷ [] → All P xs → P x → All P now
all_more P xs now x longer all one = subst (All P) (sym longer) (All-append P xs (x ∷ []) all (all_one P x one))

none_or : {X : Type 0} (a b : Option X) (P Q R : Type 0) → (P → Q → R) → IfNone a P → IfNone b Q → IfNone (option_or a b) R
none_or None None P Q R f p q = f p q
none_or None (Some y) P Q R f p q = q
none_or (Some x) b P Q R f p q = p

-- there is no value where there is neither of two, and then both facts hold
pub none_of_both : {X : Type 0} (a b o : Option X) (P Q R : Type 0) → o ≡ option_or a b → (P → Q → R) → IfNone a P → IfNone b Q → IfNone o R
none_of_both a b o P Q R is f p q = subst (λ l. IfNone l R) (sym is) (none_or a b P Q R f p q)
