use Rattle.std.proofs.Common.{◌≡◌, ◌∙◌, ap, map, sym}
use Rattle.std.proofs.lemmas.Result.{IfOk-weaker}
use Rattle.std.specs.Prelude.{string_bytes}
use Rattle.tpl_reasons.proofs.Givens.{jobs_last}
use Rattle.tpl_reasons.proofs.words.given_text.Goals as goal

pub returns-in_ok-push : goal.returns-in_ok-push
returns-in_ok-push c =
    let names = c.args.graph.now.names in
    let given = c.args.given.now in
    let others = c.in_ok-others.others.items in
    let all = sym c.are_all_jobs.ensures ∙ c.if-are_all_jobs.true in
    let each = rw c.deref.ensures.value at c.in_ok-words.ensures in
    let last = jobs_last string_bytes names given others c.in_ok-words.words.items c.push.new.self.items c.in_ok-from_str.field-0 all c.in_ok-others.ensures each c.in_ok-push.ensures.items c.in_ok-from_str.ensures.ok in
    IfOk-weaker c.listed.result _ _ (λ text said. said ∙ last) (rw c.deref-then-are_all_jobs.ensures.value at c.listed.ensures)
