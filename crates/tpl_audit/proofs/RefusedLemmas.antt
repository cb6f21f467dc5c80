-- Events that are no run.
use Rattle.std.proofs.Common.{◌≡◌, ℕ, ◌+◌, List, ◌∷◌, Bool, sym, subst}
use Rattle.std.proofs.lemmas.Option.{slice_get_within, get_or_from_slice_get}
use Rattle.std.specs.Prelude.{reverse}
use Rattle.tpl_laws.specs.Runs.{PrefixIsRun}
use Rattle.tpl_model.specs.declared.event.Event.{Event}
use Rattle.tpl_model.specs.Graph.{TaskGraph}
use Rattle.tpl_model.specs.Rules.{Run}
use Rattle.tpl_audit.specs.Audit.{first_events, IsFirstRefused}
use Rattle.tpl_audit.proofs.FailLemmas.{front_run}
use Rattle.tpl_audit.proofs.WatchLemmas.{first_more}

-- events of which one isn't allowed are no run
pub refused_never : (g : TaskGraph) (v : List Bool) (events : List Event) (place : ℕ) → PrefixIsRun → IsFirstRefused g v events place → Run g v (reverse events) → ⊥
refused_never g v events place prefix is run =
    let k = is.before in
    let e = is.event in
    let lt = slice_get_within events k e is.there in
    let more : first_events events (k + 1) ≡ e ∷ first_events events k =
    first_more events k e lt (sym (get_or_from_slice_get events k e e is.there)) in
    is.refused (subst (Run g v) more (front_run g v events (k + 1) prefix run)).1
