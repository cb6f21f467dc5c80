use Rattle.std.proofs.Common.{◌≡◌, ◌+◌, ◌∙◌, ◌∷◌, ap, drop, sym}
use Rattle.std.proofs.lemmas.List.{drop_more}
use Rattle.tpl_items.proofs.differs.says.Goals.{else-site-via-then-site+else-not-same_bool, else-site-via-else-site}
use Rattle.tpl_items.proofs.differs.says.Goals as goal

pub loop-item-preserved : goal.loop-item-preserved
loop-item-preserved g c =
    let items = c.args.items.now in
    let i = c.loop-item.item-index in
    let item = c.item-item.result in
    let split : drop i items ≡ item ∷ drop (i + 1) items =
    drop_more items i item c.loop-item-test.true ∙ ap (λ x. x ∷ drop (i + 1) items) (sym c.item-item.is) in
    let here : g.W.Item.site item ≡ c.args.site → g.W.Item.may_fail item ≡ c.args.may_fail =
    elim c.else-site.branch [
      | else-site-via-then-site+else-not-same_bool w ↦ λ e. sym w.may_fail.ensures ∙ w.same_bool.ensures.0 w.if-not-same_bool.false
      | else-site-via-else-site w ↦ λ e. absurd (w.if-site.false (c.site.ensures ∙ e))
    ] in
    λ rest. c.loop-item.invariant (rw split (here, rest))
