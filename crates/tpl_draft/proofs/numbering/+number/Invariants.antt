use Rattle.tpl_draft.specs.Numbered.{AreFew}
use Rattle.tpl_draft.specs.Tables.{seen}
use Rattle.tpl_draft.proofs.NumberLemmas.{NumberedTo}
use Rattle.tpl_draft.proofs.numbering.+number.Given as goal

abbrev pub invariant-number_body-loop-statement : goal.invariant-number_body-loop-statement
invariant-number_body-loop-statement l = record {
  few : AreFew (seen l.tables);
  to : NumberedTo (seen l.tables) l.body l.statement-items l.statement-index l.list.items;
}
