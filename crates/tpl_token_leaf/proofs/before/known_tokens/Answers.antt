use Rattle.std.proofs.Common.{◌&&◌, Option, ap, sym, ◌∙◌}
use Rattle.tpl_model.proofs.Truths.{and_true}
use Rattle.tpl_model.specs.Members.{mem}
use Rattle.tpl_model.specs.Knowledge.{Knowledge}
use Rattle.tpl_model.specs.TokenRules.{whole_row}
use Rattle.tpl_paths.specs.TokenSet.{has_token}
use Rattle.tpl_laws.specs.TokenTests.{if_known}
use Rattle.tpl_token_leaf.specs.Leaf.{rows_in}
use Rattle.tpl_token_leaf.proofs.before.known_tokens.Goals as goal

pub returns-in-None : goal.returns-in-None
returns-in-None c k =
    let asked = (whole_row (rows_in c.args.leaf.now) c.args.task.0).asked in
    c.asked-asked.ensures k ∙ (sym (and_true (mem k asked)) ∙ ap (λ (o : Option Knowledge). mem k asked && if_known o (λ known. known.requested k)) c.in-None.ensures)

pub returns-in-Some : goal.returns-in-Some
returns-in-Some c k =
    let asked = (whole_row (rows_in c.args.leaf.now) c.args.task.0).asked in
    c.intersection.ensures k
    ∙ (ap (λ z. z && has_token c.in-Some.known.requested k) (c.asked-asked.ensures k) ∙ ap (λ (o : Option Knowledge). mem k asked && if_known o (λ known. known.requested k)) c.in-Some.ensures)
