use Rattle.tpl_cert.specs.Written.{has_row_ids, row_data, HasRowSets}
use Rattle.tpl_cert.proofs.Tokens.{AreWritten}
use Rattle.tpl_cert.proofs.row_text.write_rows.Given as goal

abbrev pub invariant-loop-row : goal.invariant-loop-row
invariant-loop-row l = AreWritten (λ r. r) (has_row_ids l.graph.names) HasRowSets (row_data l.rules l.graph.names) l.rows l.row-index l.initial.out l.out
