use Rattle.std.proofs.Common.{◌≡◌, ◌∙◌, true, ap, sym, subst, List, ℕ, length}
use Rattle.tpl_laws.specs.Verdict.{has_tasks}
use Rattle.tpl_checker.proofs.ChainLemmas.{tasks_of_test}
use Rattle.tpl_checker.proofs.chain.chain.Goals as goal

pub leads_to_reader-requires-clause-tasks : goal.leads_to_reader-requires-clause-tasks
leads_to_reader-requires-clause-tasks c =
    let g = c.args.graph.now.graph in
    tasks_of_test (length g.tasks) c.chain.result.now (subst (λ (xs : List ℕ). has_tasks g xs ≡ true) (sym (c.chain.ensures ∙ ap (λ r. r.chain) c.row.ensures)) c.requires.ids)
