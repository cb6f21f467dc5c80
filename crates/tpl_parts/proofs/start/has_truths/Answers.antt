use Rattle.std.proofs.Common.{◌≡◌, rules, Bool, Some, sym, ap, subst, ◌∙◌}
use Rattle.json.specs.Value.{members_view}
use Rattle.json.proofs.Trees.{view-Object}
use Rattle.serde_json.specs.Data.{no_members}
use Rattle.tpl_json.specs.Members.{Gives}
use Rattle.tpl_json.specs.View.{data_of, members_from, view}
use Rattle.tpl_parts.specs.Start.{all_values, has_truths}
use Rattle.tpl_parts.proofs.Ends.{is_truth, is_read}
use Rattle.tpl_parts.proofs.start.has_truths.Goals as goal

pub returns-in-Object : goal.returns-in-Object
unfolding has_truths
returns-in-Object c =
    let seen : all_values is_truth (members_from (members_view c.as_slice.result.now) no_members) ≡ has_truths (view c.args.value.now) =
    ap (λ es. all_values is_truth (members_from (members_view es) no_members)) c.as_slice.ensures.value
    ∙ ap (λ j. has_truths (data_of j)) (sym (view-Object c.in-Object.members)) ∙ ap (λ v. has_truths (view v)) (sym c.in-Object.is) in
    subst (λ (b : Bool). Gives (λ x. x) c.all_pass.result (Some b)) seen (c.all_pass.ensures is_truth (record { says = λ v b k. search (rules, is_read) }))
