use Rattle.std.proofs.Common.{◌≡◌, ◌∙◌, true, ap, sym, subst, List, ℕ, length}
use Rattle.tpl_laws.specs.Verdict.{has_tasks}
use Rattle.tpl_laws.specs.TokenTests.{token_chain}
use Rattle.tpl_checker.proofs.ChainLemmas.{tasks_of_test}
use Rattle.tpl_token_leaf.specs.Leaf.{graph_of, assumed_in}
use Rattle.tpl_token_leaf.proofs.chain.chain.Goals as goal

pub leads_to_reader-requires : goal.leads_to_reader-requires
leads_to_reader-requires c =
    let g = graph_of c.args.leaf.now in
    tasks_of_test (length g.tasks) c.chain.result.now (subst (λ (xs : List ℕ). has_tasks g xs ≡ true) (sym (c.chain.ensures ∙ ap (λ r. r.chain) c.row.ensures)) c.requires.ids)

pub returns : goal.returns
returns c = c.leads_to_reader.ensures ∙ ap (λ (xs : List ℕ). token_chain (graph_of c.args.leaf.now) (assumed_in c.args.leaf.now) c.args.task.0 xs) (c.chain.ensures ∙ ap (λ r. r.chain) c.row.ensures)
