use Rattle.std.proofs.Common.{◌≡◌, ap, ◌∙◌}
use Rattle.tpl_model.specs.Members.{mem}
use Rattle.tpl_model.specs.Knowledge.{Fact}
use Rattle.tpl_paths.specs.Facts.{has_fact}
use Rattle.tpl_paths.specs.TokenSet.{has_token}
use Rattle.tpl_paths.proofs.TokenBits.{none_set}
use Rattle.tpl_laws.specs.TokenTests.{settled_before}
use Rattle.tpl_token_leaf.specs.Leaf.{rows_in}
use Rattle.tpl_token_leaf.proofs.Rows.{by_fact}
use Rattle.tpl_token_leaf.proofs.leaf.Leaf.settled_before.Goals as goal

pub returns : goal.returns
returns c =
    by_fact (λ (f : Fact). has_fact (record { tasks = c.copy.result; tokens = c.empty.result }) f ≡ settled_before (rows_in c.args.self.now) c.args.task.0 f)
    (λ x. ap (mem x) (c.copy.ensures.same ∙ (c.before-2.ensures ∙ ap (λ r. r.before) c.row.ensures)))
    (λ k. ap (λ s. has_token s k) c.empty.ensures ∙ none_set k)
