use Rattle.std.proofs.Common.{ℕ, Bool, if◌then◌else◌, List, [], ap, sym, ◌∙◌}
use Rattle.tpl_model.specs.Knowledge.{IsSettled, IsRequested}
use Rattle.tpl_trees.specs.Coding.{tokens_in}
use Rattle.tpl_laws.specs.LeastRows.{tasks_where, tokens_where}
use Rattle.tpl_token_leaf.specs.declared.leaf.Leaf.{Leaf}
use Rattle.tpl_token_leaf.specs.Leaf.{graph_of}
use Rattle.tpl_token_leaf.specs.LeafRules.{ends_as, kind_left_in}
use Rattle.tpl_trees.proofs.TokenLists.{no_tokens_in}
use Rattle.tpl_token_check.proofs.ended.said_of_end.Goals as goal

-- what may be said of the end of a task, if it ends
abbrev past_if : Leaf → ℕ → Bool → List ℕ
past_if leaf t b = if b then tasks_where (graph_of leaf) (λ x. ends_as leaf t (kind_left_in leaf t) (IsSettled x)) else []

abbrev asks_if : Leaf → ℕ → Bool → List ℕ
asks_if leaf t b = if b then tokens_where (graph_of leaf) (λ k. ends_as leaf t (kind_left_in leaf t) (IsRequested k)) else []

pub returns-then-not-some_end-clause-tasks : goal.returns-then-not-some_end-clause-tasks
returns-then-not-some_end-clause-tasks c p = c.empty.ensures ∙ ap (past_if c.args.leaf.now c.args.task.0) (sym c.if-not-some_end.true ∙ c.some_end.ensures)

pub returns-then-not-some_end-clause-tokens : goal.returns-then-not-some_end-clause-tokens
returns-then-not-some_end-clause-tokens c p =
    ap tokens_in c.empty-then-not-some_end.ensures ∙ (no_tokens_in ∙ ap (asks_if c.args.leaf.now c.args.task.0) (sym c.if-not-some_end.true ∙ c.some_end.ensures))

pub returns-clause-tasks : goal.returns-clause-tasks
returns-clause-tasks c p =
    c.within.ensures.tasks (graph_of c.args.leaf.now) c.requires.all
    ∙ ((λ i. tasks_where (graph_of c.args.leaf.now) (λ x. c.end_facts.ensures (IsSettled x) i)) ∙ ap (past_if c.args.leaf.now c.args.task.0) (sym c.if-not-some_end.false ∙ c.some_end.ensures))

pub returns-clause-tokens : goal.returns-clause-tokens
returns-clause-tokens c p =
    c.within.ensures.tokens (graph_of c.args.leaf.now) c.requires.all
    ∙ ((λ i. tokens_where (graph_of c.args.leaf.now) (λ k. c.end_facts.ensures (IsRequested k) i)) ∙ ap (asks_if c.args.leaf.now c.args.task.0) (sym c.if-not-some_end.false ∙ c.some_end.ensures))
