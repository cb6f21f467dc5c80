use Rattle.std.proofs.Common.{◌≡◌, ◌+◌, ◌++◌, ◌∷◌, [], Some, take, take_all, refl, sym, ap, ◌∙◌}
use Rattle.std.proofs.lemmas.List.{take_more}
use Rattle.json.specs.Value.{members_view}
use Rattle.serde_json.specs.Data.{no_members}
use Rattle.tpl_json.specs.View.{members_from}
use Rattle.tpl_parts.proofs.Truths.{noted, noted_more, all_values_of}
use Rattle.tpl_parts.proofs.start.all_pass.Goals as goal

pub loop-member-preserved : goal.loop-member-preserved
loop-member-preserved g c =
    let m = c.member-item.result in
    let ms = c.args.members.now in
    let i = c.loop-member.member-index in
    let more : take (i + 1) ms ≡ take i ms ++ m ∷ [] = take_more ms i m c.loop-member-test.true ∙ ap (λ x. take i ms ++ x ∷ []) (sym c.member-item.is) in (
      c.loop-member.invariant.0,
      λ p tests. rw c.in_ok-insert.ensures.entries (noted_more p (take i ms) m c.loop-member.passes.entries c.test.result (c.loop-member.invariant.1 p tests) (tests.says m.1 c.test.result (record { shown = _; shows = refl; says = record { met = c.test.ensures } })))
          ∙ ap (λ xs. noted p (members_from (members_view xs) no_members)) (sym more),
    )

pub returns : goal.returns
returns g c =
    let ms = c.args.members.now in
    λ p tests. let all = c.loop-member.invariant.1 p tests ∙ ap (λ xs. noted p (members_from (members_view xs) no_members)) (take_all c.loop-member.member-index ms c.loop-member-test.false) in
    ap Some (sym (c.are_all.ensures ∙ all_values_of p c.loop-member.passes.entries (members_from (members_view ms) no_members) all))
