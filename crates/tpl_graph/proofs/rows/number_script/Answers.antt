use Rattle.tpl_draft.specs.Tables.{seen}
use Rattle.tpl_graph.proofs.MadeLemmas.{small_script}
use Rattle.tpl_graph.proofs.rows.number_script.Goals as goal

pub script_of-requires : goal.script_of-requires
script_of-requires c = rw c.in_ok-number_body.ensures (small_script (seen c.args.tables.now) c.args.body.now c.requires.small)
