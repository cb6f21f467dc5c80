use Rattle.std.proofs.Common.{◌≡◌, ◌<◌, ◌≤◌, List, ℕ, length, map, ap, sym, subst, ◌∙◌, arith}
use Rattle.std.specs.Prelude.{IfOk}
use Rattle.tpl_draft.specs.Ids.{task_number}
use Rattle.tpl_laws.specs.LeastRows.{chain_after}
use Rattle.tpl_token_leaf.specs.Leaf.{graph_of, assumed_in}
use Rattle.tpl_token_check.specs.Levels.{AreLevels}
use Rattle.tpl_token_check.proofs.LevelLemmas.{first_level, level_here, level_next, no_level}
use Rattle.tpl_token_check.proofs.shortest.shortest_chain.Goals as goal

pub loop-init : goal.loop-init
loop-init c = first_level (graph_of c.args.leaf.now) (assumed_in c.args.leaf.now) c.args.task.0 c.new-levels.result.items c.read_tasks-level.result c.new-levels.ensures.items c.read_tasks-level.ensures

pub chain_down-requires : goal.chain_down-requires
chain_down-requires c = subst (λ (xs : List (List ℕ)). AreLevels (graph_of c.args.leaf.now) (assumed_in c.args.leaf.now) xs) (sym c.as_slice.ensures.value) c.loop.invariant.are

pub returns-then-contains : goal.returns-then-contains
returns-then-contains c =
    let g = graph_of c.args.leaf.now in
    let l = assumed_in c.args.leaf.now in
    let t = c.args.task.0 in
    let lt : c.loop.counter < 16 = omega arith in
    subst (λ (xs : List ℕ). IfOk c.chain_down.result (λ v. map task_number v.items ≡ xs))
    (ap (λ (ys : List (List ℕ)). chain_after g l (length ys) t) c.as_slice.ensures.value ∙ level_here g l t c.loop.counter c.loop.levels.items c.loop.level lt c.loop.invariant (sym c.contains.ensures.member ∙ c.if-contains.true))
    c.chain_down.ensures

pub loop-preserved : goal.loop-preserved
loop-preserved c =
    let g = graph_of c.args.leaf.now in
    let l = assumed_in c.args.leaf.now in
    let lt : c.loop.counter < 16 = omega arith in
    level_next g l c.args.task.0 c.loop.counter c.loop.levels.items c.loop.level lt c.loop.invariant c.push.new.self.items c.taken_over-next.result (sym c.contains.ensures.member ∙ c.if-contains.false) c.in_ok-push.ensures.items c.taken_over-next.ensures

pub returns : goal.returns
returns c =
    let g = graph_of c.args.leaf.now in
    let l = assumed_in c.args.leaf.now in
    let le : 16 ≤ c.loop.counter = omega arith in
    ap (map task_number) c.new.ensures.items ∙ no_level g l c.args.task.0 c.loop.counter c.loop.levels.items c.loop.level le c.loop.invariant
