-- What is asked for at each kind of statement.
use Rattle.std.proofs.Common.{◌≡◌, ℕ, Bool, true, false, not, ◌&&◌, None, refl, sym}
use Rattle.tpl_model.specs.declared.status.Label.TheVariants.{Thrown, WorkFailed}
use Rattle.tpl_model.specs.declared.outcome.Outcome.TheVariants.{Returned, Threw}
use Rattle.tpl_model.specs.Statements.{Return, Throw, Check, Cancel, Observe, Work}
use Rattle.tpl_model.specs.Paths.{cancellation}
use Rattle.tpl_model.specs.Knowledge.{Reached, Reading, when, with_tokens, both}
use Rattle.tpl_paths.specs.declared.asked.Asked.{Asked}
use Rattle.tpl_paths.specs.declared.asked.Asked.TheVariants as asked
use Rattle.tpl_paths.specs.Asked.{ended, asked_at}

when_none : (b : Bool) → when b None ≡ None
when_none true = refl
when_none false = refl

pub at_return : (a : Asked) (w : Reading) (r : Reached) → asked_at a w Return r ≡ ended a Returned r
at_return (asked.End f) w r = refl
at_return asked.Throw w r = refl
at_return (asked.Start c) w r = refl

pub at_throw : (a : Asked) (w : Reading) (l : ℕ) (r : Reached) → asked_at a w (Throw l) r ≡ ended a (Threw (Thrown (record { 0 = l }))) r
at_throw (asked.End f) w l r = refl
at_throw asked.Throw w l r = refl
at_throw (asked.Start c) w l r = refl

pub at_check : (a : Asked) (w : Reading) (k : ℕ) (r : Reached) → asked_at a w (Check k) r ≡ when (not (w.known.quiet k)) (ended a (cancellation w.known.own k) (both (with_tokens (w.linked k)) r))
at_check (asked.End f) w k r = refl
at_check asked.Throw w k r = refl
at_check (asked.Start c) w k r = sym (when_none (not (w.known.quiet k)))

pub at_cancel : (a : Asked) (w : Reading) (k : ℕ) (r : Reached) → asked_at a w (Cancel k) r ≡ None
at_cancel (asked.End f) w k r = refl
at_cancel asked.Throw w k r = refl
at_cancel (asked.Start c) w k r = refl

pub at_observe : (a : Asked) (w : Reading) (r : Reached) → asked_at a w Observe r ≡ None
at_observe (asked.End f) w r = refl
at_observe asked.Throw w r = refl
at_observe (asked.Start c) w r = refl

pub at_work : (a : Asked) (w : Reading) (site : ℕ) (may_fail : Bool) (r : Reached) → asked_at a w (Work site may_fail) r ≡ when (may_fail && not (w.known.sure site)) (ended a (Threw (WorkFailed (record { 0 = site }))) r)
at_work (asked.End f) w site may_fail r = refl
at_work asked.Throw w site may_fail r = refl
at_work (asked.Start c) w site may_fail r = sym (when_none (may_fail && not (w.known.sure site)))
