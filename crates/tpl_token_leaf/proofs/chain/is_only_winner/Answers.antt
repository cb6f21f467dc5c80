use Rattle.std.proofs.Common.{◌&&◌, filter, map, nat_eq, ap, ◌∙◌}
use Rattle.tpl_draft.specs.Ids.{task_number}
use Rattle.tpl_laws.specs.RowTests.{all_in}
use Rattle.tpl_token_leaf.specs.Leaf.{assumed_in}
use Rattle.tpl_token_leaf.proofs.TokenChainLemmas.{member_filtered}
use Rattle.tpl_token_leaf.proofs.chain.is_only_winner.Goals as goal

pub returns : goal.returns
returns c =
    let wins = (assumed_in c.args.leaf.now).wins c.args.task.0 in
    let xs = map task_number c.args.args.now in
    c.both-2.ensures
    ∙ ((λ i. (c.both.ensures ∙ (λ j. c.is_member-is_one.ensures j && c.may_win-wins.ensures j)) i && c.wins_alone-alone.ensures i)
    ∙ ap (λ z. z && all_in (λ x. nat_eq x c.args.argument.0) (filter wins xs)) (member_filtered wins c.args.argument.0 xs))
