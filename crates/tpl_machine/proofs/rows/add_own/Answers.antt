use Rattle.tpl_run.proofs.AtomLemmas.{empty_atoms}
use Rattle.tpl_machine.proofs.AtomLemmas.{one_atom}
use Rattle.tpl_machine.proofs.rows.add_own.Goals as goal

pub returns-in-Some-Threw-clause-atoms : goal.returns-in-Some-Threw-clause-atoms
returns-in-Some-Threw-clause-atoms c = one_atom _ _ _ _ c.push_reserved.ensures.items c.requires.none c.requires.below

pub returns-in-Some-Returned-clause-atoms : goal.returns-in-Some-Returned-clause-atoms
returns-in-Some-Returned-clause-atoms c = empty_atoms _ _ c.requires.none

pub returns-in-Some-Acknowledged-clause-atoms : goal.returns-in-Some-Acknowledged-clause-atoms
returns-in-Some-Acknowledged-clause-atoms c = empty_atoms _ _ c.requires.none

pub returns-in-None-clause-atoms : goal.returns-in-None-clause-atoms
returns-in-None-clause-atoms c = empty_atoms _ _ c.requires.none
