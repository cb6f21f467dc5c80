use Rattle.std.proofs.Common.{ap, subst}
use Rattle.tpl_model.specs.Cursor.{BeginsWith}
use Rattle.tpl_model.specs.Seen.{statement_of}
use Rattle.tpl_model.specs.Statements.{Check}
use Rattle.tpl_model.specs.Valid.{IsGraph}
use Rattle.tpl_run.specs.Journal.{Journal}
use Rattle.tpl_run.specs.Rows.{TaskRow}
use Rattle.tpl_machine.proofs.DueLemmas.{checks_within}
use Rattle.tpl_machine.proofs.machine.Machine.decides.Goals as goal

pub asked-requires : goal.asked-requires
asked-requires c =
    checks_within c.args.self.now.graph c.args.self.now.inputs c.args.self.now.events c.args.task.0 c.in-Some-Check.token.0
    (subst (λ (j : Journal). IsGraph j.graph) c.self.view_is c.self.invariant.0.graph) c.requires
    (subst (λ (r : TaskRow). BeginsWith r.rest.left (Check c.in-Some-Check.token.0)) c.row.ensures
    (subst (λ s. BeginsWith c.row.result.now.rest.left s) (ap statement_of c.in-Some-Check.field-0-is) c.in-Some-Check.ensures))
