use Rattle.std.proofs.Common.{◌≡◌, ◌||◌, ap, sym, ◌∙◌}
use Rattle.tpl_model.proofs.Truths.{or_false}
use Rattle.tpl_model.specs.Members.{mem}
use Rattle.tpl_model.specs.Knowledge.{Fact}
use Rattle.tpl_paths.specs.Facts.{has_fact}
use Rattle.tpl_paths.specs.Knowledge.{knowledge_of}
use Rattle.tpl_laws.specs.TokenTests.{known_there}
use Rattle.tpl_token_leaf.proofs.Rows.{by_fact}
use Rattle.tpl_token_leaf.proofs.facts.with_known.Goals as goal

pub returns : goal.returns
returns c =
    by_fact (λ (f : Fact). has_fact (record { tasks = c.copy.result; tokens = c.union.result }) f ≡ (has_fact c.args.facts.now f || known_there (knowledge_of c.args.known.now) f))
    (λ x. ap (mem x) c.copy.ensures.same ∙ sym (or_false (mem x c.args.facts.now.tasks)))
    (λ k. c.union.ensures k)
