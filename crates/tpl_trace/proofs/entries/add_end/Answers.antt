use Rattle.std.proofs.lemmas.Result.{on_ok_weaker}
use Rattle.tpl_trace.proofs.EntryLemmas.{then_more}
use Rattle.tpl_trace.proofs.entries.add_end.Goals as goal

pub returns : goal.returns
returns c =
    on_ok_weaker c.add_arrows.result (λ added. then_more _ _ _ _ _ c.in_ok-add_instant.ensures added) c.add_arrows.ensures
