use Rattle.tpl_draft.specs.Ask.{asks}
use Rattle.tpl_draft.proofs.AskLemmas.{NoneSoFar}
use Rattle.tpl_draft.proofs.ask.+some.Given as goal

abbrev pub invariant-some_statement-loop-statement : goal.invariant-some_statement-loop-statement
invariant-some_statement-loop-statement l = NoneSoFar (asks l.ask) l.body l.statement-items l.statement-index
