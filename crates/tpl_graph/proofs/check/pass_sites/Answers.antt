use Rattle.std.proofs.Common.{◌≡◌, [], suc, ◌+◌, ◌∙◌, refl, subst, arith}
use Rattle.std.specs.Prelude.{Some}
use Rattle.tpl_draft.specs.declared.fault.Why.TheVariants as why
use Rattle.tpl_draft.specs.Numbered.{sites_of}
use Rattle.tpl_draft.specs.Refusals.{applies, IsFirst}
use Rattle.tpl_draft.specs.SeenTasks.{draft_of}
use Rattle.tpl_draft.proofs.LeastLemmas.{least}
use Rattle.tpl_graph.proofs.PlaceLaws.{with_names_once}
use Rattle.tpl_graph.proofs.check.pass_sites.Goals as goal

pub returns-in-Ok-clause-names : goal.returns-in-Ok-clause-names
returns-in-Ok-clause-names c = c.in-Ok.ensures.names ∙ with_names_once [] (sites_of (draft_of c.args.draft.now).tasks) c.in-Ok.ensures.once

pub returns-in-Err-Twice-clause-fault : goal.returns-in-Err-Twice-clause-fault
returns-in-Err-Twice-clause-fault c =
    let twice = (rw c.in-Err-Twice.field-0-is at c.in-Err-Twice.ensures.twice) in
    let next : suc c.in-Err-Twice.t ≡ c.in-Err-Twice.t + 1 = omega arith in
    least (draft_of c.args.draft.now) why.SiteTwice (c.in-Err-Twice.t + 1) refl c.requires (subst (λ k. IsFirst (applies (draft_of c.args.draft.now) why.SiteTwice) (Some k)) next twice.1)
