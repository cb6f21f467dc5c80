use Rattle.std.proofs.Common.{◌≡◌, ℕ, Some, None, ap, sym, ◌∙◌}
use Rattle.tpl_laws.proofs.Parents.{the_parent}
use Rattle.tpl_laws.specs.RowTests.{by_parent}
use Rattle.tpl_laws.specs.TokenTests.{before_begin, settled_before}
use Rattle.tpl_token_leaf.specs.Leaf.{graph_of, rows_in}
use Rattle.tpl_token_leaf.proofs.leaf.Leaf.before_begin.Goals as goal

no_some : {A : Type 0} (x : ℕ) → Some x ≡ None → A
no_some x e = absurd (cc)

pub returns-in-Root : goal.returns-in-Root
returns-in-Root c f = c.none.ensures f ∙ ap (λ k. before_begin (graph_of c.args.self.now) (rows_in c.args.self.now) c.args.task.0 k f) c.in-Root.ensures.kind

pub returns-in-None : goal.returns-in-None
returns-in-None c f =
    let g = graph_of c.args.self.now in
    let t = c.args.task.0 in
    let p = (c.valid_law.ensures.graph.each t c.requires.task).parent (sym c.in-Child.ensures.kind) in
    no_some p.0 (sym (the_parent g p.0 t c.valid_law.ensures.graph p.1) ∙ sym c.in-None.ensures.parent)

pub returns-in-Some : goal.returns-in-Some
returns-in-Some c f =
    let g = graph_of c.args.self.now in
    let rows = rows_in c.args.self.now in
    let t = c.args.task.0 in
    c.settled_before.ensures f ∙ (ap (λ o. by_parent o (λ p. settled_before rows p f)) c.in-Some.ensures.parent ∙ ap (λ k. before_begin g rows t k f) c.in-Child.ensures.kind)

pub returns-in-Then : goal.returns-in-Then
returns-in-Then c f = c.once_ended.ensures f ∙ ap (λ k. before_begin (graph_of c.args.self.now) (rows_in c.args.self.now) c.args.task.0 k f) c.in-Then.ensures.kind
