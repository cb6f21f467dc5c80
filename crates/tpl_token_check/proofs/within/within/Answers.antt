use Rattle.std.proofs.Common.{true, length, refl, sym, ◌∙◌}
use Rattle.std.proofs.lemmas.Bool.{lt-ltb}
use Rattle.tpl_model.specs.Knowledge.{IsSettled, IsRequested}
use Rattle.tpl_paths.specs.Facts.{has_fact}
use Rattle.tpl_laws.specs.LeastRows.{tasks_where, tokens_where}
use Rattle.tpl_token_leaf.specs.Ways.{holds_in_all}
use Rattle.tpl_token_check.proofs.within.within.Goals as goal

pub returns-in-None-clause-tasks : goal.returns-in-None-clause-tasks
returns-in-None-clause-tasks c g a = c.tasks_within.ensures g (λ x. true) a (λ x lt. a.tasks x ∙ lt-ltb x (length g.tasks) lt) ∙ (λ i. tasks_where g (λ z. holds_in_all (sym c.in-None.is i) (IsSettled z)))

pub returns-in-None-clause-tokens : goal.returns-in-None-clause-tokens
returns-in-None-clause-tokens c g a = c.tokens_within.ensures g (λ k. true) a (λ k lt. a.tokens k ∙ lt-ltb k (length g.tokens) lt) ∙ (λ i. tokens_where g (λ z. holds_in_all (sym c.in-None.is i) (IsRequested z)))

pub returns-in-Some-clause-tasks : goal.returns-in-Some-clause-tasks
returns-in-Some-clause-tasks c g a = c.tasks_within-in-Some.ensures g (λ x. has_fact c.in-Some.facts (IsSettled x)) a (λ x lt. refl) ∙ (λ i. tasks_where g (λ z. holds_in_all (sym c.in-Some.is i) (IsSettled z)))

pub returns-in-Some-clause-tokens : goal.returns-in-Some-clause-tokens
returns-in-Some-clause-tokens c g a = c.tokens_within-in-Some.ensures g (λ k. has_fact c.in-Some.facts (IsRequested k)) a (λ k lt. refl) ∙ (λ i. tokens_where g (λ z. holds_in_all (sym c.in-Some.is i) (IsRequested z)))
