use Rattle.tpl_run.proofs.AtomLemmas.{empty_atoms}
use Rattle.tpl_machine.proofs.rows.gather_args.Goals as goal

pub gather-requires-clause-atoms : goal.gather-requires-clause-atoms
gather-requires-clause-atoms c = empty_atoms _ _ c.requires.none

pub returns-else-eq-clause-atoms : goal.returns-else-eq-clause-atoms
returns-else-eq-clause-atoms c = empty_atoms _ _ c.requires.none
