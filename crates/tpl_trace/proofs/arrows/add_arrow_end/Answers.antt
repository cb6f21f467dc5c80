use Rattle.std.proofs.Common.{sym, take}
use Rattle.tpl_model.specs.Graph.{kind}
use Rattle.tpl_draft.specs.Named.{antecedent_of}
use Rattle.tpl_trace.proofs.EntryLemmas.{arrow_ends}
use Rattle.tpl_trace.proofs.arrows.add_arrow_end.Goals as goal

pub returns-in_ok-push : goal.returns-in_ok-push
returns-in_ok-push c =
    arrow_ends c.args.entries.now.items c.push.new.self.items c.in_ok-arrow_end.field-0 (antecedent_of (kind c.args.turn.run.graph.now.graph c.args.turn.task.0)) c.in-Some.antecedent.0 c.args.turn.here (take c.args.turn.here.before c.args.turn.run.events.now)
    c.in_ok-push.ensures.items c.in_ok-arrow_end.ensures c.in-Some.ensures (sym c.if-some_may_end.ensures)
