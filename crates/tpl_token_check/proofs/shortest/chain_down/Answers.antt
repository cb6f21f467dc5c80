use Rattle.std.proofs.Common.{ap, sym, ◌∙◌, arith}
use Rattle.std.specs.Option.{option_map}
use Rattle.tpl_draft.specs.Ids.{task_number}
use Rattle.tpl_token_check.proofs.LevelLemmas.{none_down, one_down}
use Rattle.tpl_token_check.proofs.shortest.chain_down.Goals as goal

pub returns-in_default : goal.returns-in_default
returns-in_default c =
    none_down c.requires c.index-levels-at.result (omega arith) (omega arith) c.index-levels-at.is c.loop-at.invariant (ap (option_map task_number) (sym c.in_default.is) ∙ c.first_taker.ensures)

pub loop-at-preserved : goal.loop-at-preserved
loop-at-preserved c =
    one_down c.requires c.index-levels-at.result (omega arith) (omega arith) c.index-levels-at.is c.loop-at.invariant c.in-Some.taker c.push.new.self.items c.in-Some.ensures c.in_ok-push.ensures.items
