use Rattle.std.proofs.Common.{length, subst}
use Rattle.tpl_run.specs.Journal.{Journal}
use Rattle.tpl_run.specs.Tokens.{IsTable}
use Rattle.tpl_machine.proofs.TokenLemmas.{kept_table}
use Rattle.tpl_machine.proofs.machine.readers.MachineReaders.asked.Goals as goal

pub returns : goal.returns
returns c =
    let table = subst (λ (j : Journal). IsTable j.graph j.inputs j.events c.close-table.result (length j.graph.tokens)) c.self.view_is (c.close-table.ensures _ _ (kept_table _ _ _ _ _ _ _ c.self.invariant.0)) in
    table.below c.args.token.0 c.requires
