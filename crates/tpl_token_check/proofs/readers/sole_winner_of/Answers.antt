use Rattle.std.proofs.Common.{filter, length, map, nat_eq, ap, ◌∙◌, arith}
use Rattle.tpl_model.proofs.Truths.{and_first}
use Rattle.tpl_model.specs.Members.{mem}
use Rattle.tpl_model.specs.TokenRules.{kind_left, with_winners}
use Rattle.tpl_draft.specs.Ids.{task_number}
use Rattle.tpl_laws.specs.RowTests.{all_in}
use Rattle.tpl_laws.specs.TokenTests.{is_won_by}
use Rattle.tpl_laws.proofs.Settling.{mem_filter}
use Rattle.tpl_checker.proofs.Basics.{drop_all}
use Rattle.tpl_token_leaf.specs.Leaf.{graph_of, assumed_in}
use Rattle.tpl_token_check.proofs.ReaderLemmas.{all_won}
use Rattle.tpl_token_check.proofs.readers.sole_winner_of.Goals as goal

pub returns : goal.returns
returns c =
    let g = graph_of c.args.leaf.now in
    let l = assumed_in c.args.leaf.now in
    let t = c.args.task.0 in
    let args = map task_number c.args.args.now in
    all_won (length g.tasks) (is_won_by (kind_left g l t)) c.args.args.now c.loop-arg.arg-index c.loop-arg.winner (drop_all c.args.args.now c.loop-arg.arg-index (omega arith)) c.loop-arg.invariant
    (λ y e. mem_filter (l.wins t) y args
    (and_first (mem y (filter (l.wins t) args)) (all_in (λ x. nat_eq x y) (filter (l.wins t) args)) (ap (λ k. is_won_by (with_winners (l.wins t) k) y) c.requires.kind ∙ e)))
