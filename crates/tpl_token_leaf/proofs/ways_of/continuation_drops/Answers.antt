use Rattle.std.proofs.Common.{◌≡◌, ◌&&◌, ◌||◌, not, refl, sym, ap, ◌∙◌}
use Rattle.tpl_model.specs.declared.finals.Final.{Final}
use Rattle.tpl_model.specs.Finals.{has}
use Rattle.tpl_model.specs.Options.{allows, lazy_cancellation}
use Rattle.tpl_model.specs.Graph.{Continues, options}
use Rattle.tpl_model.specs.Certificate.{row, plain}
use Rattle.tpl_model.specs.TokenRules.{DroppedEarly, DroppedLate, NotAllowed}
use Rattle.tpl_laws.specs.RowTests.{some_end}
use Rattle.tpl_token_leaf.specs.Leaf.{graph_of, rows_in}
use Rattle.tpl_token_leaf.specs.LeafRules.{holds_as}
use Rattle.tpl_token_leaf.proofs.WayLemmas.{under}
use Rattle.tpl_token_leaf.proofs.ways_of.continuation_drops.Goals as goal

pub returns : goal.returns
returns c =
    let g = graph_of c.args.leaf.now in
    let rows = plain (rows_in c.args.leaf.now) in
    let t = c.args.task.0 in
    let a = c.args.antecedent.0 in
    let holds = holds_as c.args.leaf.now t (Continues a) in
    let lazy : c.lazy_cancellation-lazy.result ≡ lazy_cancellation (options g t) = c.lazy_cancellation-lazy.ensures ∙ ap lazy_cancellation c.options-options.ensures in
    let out : (f : Final) → has c.excluded.result f ≡ (has (row rows a).ends f && not (allows (options g t) f)) =
    λ f. c.excluded.ensures f ∙ (λ i. has ((c.ends.ensures ∙ ap (λ r. r.ends) c.row.ensures) i) f && not (allows (c.options-options.ensures i) f)) in
    let early = under holds c.canceled_if-early.result DroppedEarly (c.both-2.ensures ∙ (λ i. c.is_loud-loud.ensures i && not (lazy i))) (c.canceled_if-early.ensures DroppedEarly holds refl (λ f. sym (c.own_requested-own.ensures f))) in
    let late = under holds c.canceled_if-late.result DroppedLate (c.both.ensures ∙ (λ i. c.is_loud-loud.ensures i && c.may_end-may_end.ensures i))
    (c.canceled_if-late.ensures DroppedLate holds refl (λ f. sym (c.union.ensures f ∙ (λ i. c.own_requested-own.ensures f i || c.once_ended-after.ensures f i)))) in
    let not_allowed = under holds c.canceled_if-not_allowed.result NotAllowed (c.some_end-excluded_end.ensures ∙ (λ i. some_end (λ f. out f i)))
    (c.canceled_if-not_allowed.ensures NotAllowed holds refl (λ f. sym (c.once_ended-after.ensures f))) in
    c.join-2.ensures holds _ _ early (c.join.ensures holds _ _ late not_allowed)
