use Rattle.std.proofs.Common.{◌&&◌, Bool, Some, None, refl, ap, sym, ◌∙◌}
use Rattle.tpl_model.specs.Members.{mem}
use Rattle.tpl_model.specs.Knowledge.{Fact, IsSettled, IsRequested}
use Rattle.tpl_model.specs.Graph.{Child}
use Rattle.tpl_model.specs.TokenRules.{whole_row}
use Rattle.tpl_paths.specs.Facts.{has_fact}
use Rattle.tpl_token_leaf.specs.Leaf.{rows_in}
use Rattle.tpl_token_leaf.specs.LeafRules.{begins_as}
use Rattle.tpl_token_leaf.proofs.Children.{child_begins}
use Rattle.tpl_token_leaf.proofs.FactTests.{begins_all, begins_of_its_tokens}
use Rattle.tpl_token_leaf.proofs.before.holds_at_start.Goals as goal

pub returns-in-None : goal.returns-in-None
returns-in-None c =
    sym (begins_all (rows_in c.args.leaf.now) c.args.task.0 (begins_as c.args.leaf.now c.args.task.0 Child) (λ f. sym (child_begins c.args.leaf.now c.args.task.0 None c.in-None.ensures.parent f)))

pub returns-in-Some : goal.returns-in-Some
returns-in-Some c =
    let rows = rows_in c.args.leaf.now in
    let t = c.args.task.0 in
    let limit : Fact → Bool = has_fact (record { tasks = c.copy.result; tokens = c.known_tokens.result }) in
    let begins = child_begins c.args.leaf.now t (Some c.in-Some.parent.0) c.in-Some.ensures.parent in
    c.begins_within.ensures limit (λ f. refl)
    ∙ begins_of_its_tokens rows t (begins_as c.args.leaf.now t Child) limit
    (λ x. ap (mem x) (c.copy.ensures.same ∙ (c.before-in-Some.ensures ∙ ap (λ r. r.before) c.row.ensures)) ∙ begins (IsSettled x))
    (λ k. c.known_tokens.ensures k ∙ ap (λ z. mem k (whole_row rows t).asked && z) (begins (IsRequested k)))
