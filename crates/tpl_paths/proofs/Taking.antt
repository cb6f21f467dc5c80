-- What is taken of the paths that end with an outcome.
use Rattle.std.proofs.Common.{◌≡◌, Bool, true, false, ◌||◌, Option, None, refl, sym, ap, ◌∙◌}
use Rattle.tpl_model.specs.declared.finals.Final.TheVariants.{RanToCompletion, Canceled, Faulted}
use Rattle.tpl_model.specs.declared.outcome.Outcome.{Outcome}
use Rattle.tpl_model.specs.declared.outcome.Outcome.TheVariants.{Returned, Threw, Acknowledged}
use Rattle.tpl_model.specs.Knowledge.{Fact, Knowledge, Reached, all, meet, when, with_facts}
use Rattle.tpl_paths.specs.declared.asked.Asked.{Asked}
use Rattle.tpl_paths.specs.declared.asked.Asked.TheVariants as asked
use Rattle.tpl_paths.specs.Asked.{ended, takes_unburdened, takes_burdened}
use Rattle.tpl_paths.proofs.Meets.{meet_none, meet_assoc, meet_again, meet_turned, when_meet, with_facts_meet}

ended_by_kinds : (a : Asked) (o : Outcome) (r : Reached) → ended a o r ≡ meet (when (takes_unburdened a o) r.unburdened) (when (takes_burdened a o) r.burdened)
ended_by_kinds (asked.End RanToCompletion) Returned r = sym (meet_none r.unburdened)
ended_by_kinds (asked.End RanToCompletion) (Threw label) r = refl
ended_by_kinds (asked.End RanToCompletion) Acknowledged r = refl
ended_by_kinds (asked.End Canceled) Returned r = refl
ended_by_kinds (asked.End Canceled) (Threw label) r = refl
ended_by_kinds (asked.End Canceled) Acknowledged r = sym (meet_none r.unburdened)
ended_by_kinds (asked.End Faulted) Returned r = refl
ended_by_kinds (asked.End Faulted) (Threw label) r = refl
ended_by_kinds (asked.End Faulted) Acknowledged r = refl
ended_by_kinds asked.Throw Returned r = refl
ended_by_kinds asked.Throw (Threw label) r = refl
ended_by_kinds asked.Throw Acknowledged r = refl
ended_by_kinds (asked.Start c) o r = refl

-- what was found meets one kind of paths, and then the other, if the test holds
pub both_if : (here : Bool) (r : Reached) (before between after : Option Knowledge)
    → between ≡ meet before (when here r.unburdened) → after ≡ meet between (when here r.burdened) → after ≡ meet before (when here (all r))
both_if here r before between after f g =
    g
    ∙ (ap (λ s. meet s (when here r.burdened)) f
    ∙ (meet_assoc before (when here r.unburdened) (when here r.burdened)
    ∙ ap (meet before) (sym (when_meet here r.unburdened r.burdened))))

-- what was found meets one kind of paths, and then the other
pub both_kinds : (a : Asked) (o : Outcome) (r : Reached) (p q : Bool) (before between after : Option Knowledge) → p ≡ takes_unburdened a o → q ≡ takes_burdened a o
    → between ≡ meet before (when p r.unburdened) → after ≡ meet between (when q r.burdened) → after ≡ meet before (ended a o r)
both_kinds a o r p q before between after tp tq f g =
    g
    ∙ (ap (λ s. meet s (when q r.burdened)) f
    ∙ (meet_assoc before (when p r.unburdened) (when q r.burdened)
    ∙ (ap (λ t. meet before (meet (when t r.unburdened) (when q r.burdened))) tp
    ∙ (ap (λ t. meet before (meet (when (takes_unburdened a o) r.unburdened) (when t r.burdened))) tq
    ∙ ap (meet before) (sym (ended_by_kinds a o r))))))

pub with_facts_when : (p : Bool) (h : Fact → Bool) (a : Option Knowledge) → with_facts h (when p a) ≡ when p (with_facts h a)
with_facts_when true h a = refl
with_facts_when false h a = refl

-- the burdened paths behind the start of a child that may end well, or Faulted
pub burdened_by : (well faulted : Bool) (h : Fact → Bool) (a b : Option Knowledge)
    → with_facts h (meet (when (well || faulted) b) (when faulted a)) ≡ meet (when well (with_facts h b)) (when faulted (with_facts h (meet a b)))
burdened_by true true h a b = ap (with_facts h) (sym (meet_again a b)) ∙ with_facts_meet h b (meet a b)
burdened_by true false h a b = with_facts_meet h b None
burdened_by false true h a b = ap (with_facts h) (meet_turned b a)
burdened_by false false h a b = refl

-- paths of each kind
pub same_reached : (u v b d : Option Knowledge) → u ≡ v → b ≡ d → let one : Reached = record { unburdened = u; burdened = b } in let other : Reached = record { unburdened = v; burdened = d } in one ≡ other
same_reached u v b d e f =
    ap (λ s. let r : Reached = record { unburdened = s; burdened = b } in r) e ∙ ap (λ s. let r : Reached = record { unburdened = v; burdened = s } in r) f
