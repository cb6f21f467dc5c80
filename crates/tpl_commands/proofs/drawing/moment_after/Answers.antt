use Rattle.std.proofs.Common.{List, [], Bool, ◌∙◌, subst}
use Rattle.tpl_audit.specs.Audit.{IsFirstRefused}
use Rattle.tpl_reader.specs.SeenDocument.{doc_of}
use Rattle.tpl_commands.proofs.RunLemmas.{an_event, audited_with, no_event, no_run, one_run}
use Rattle.tpl_commands.proofs.drawing.moment_after.Goals as goal

pub returns-in-NotAllowed : goal.returns-in-NotAllowed
returns-in-NotAllowed c =
    let g = c.args.document.now.graph.graph in
    let refused = subst (λ (v : List Bool). IsFirstRefused g v c.args.events.now c.in-NotAllowed.place) c.copy.ensures c.in-NotAllowed.ensures.verdict in
    λ h is. absurd (no_run c.text_is_unambiguous.ensures c.prefix_is_run.ensures (doc_of c.args.document.now) c.args.inputs c.args.events.now _ c.valid_law.ensures c.requires.inputs c.requires.journal refused h is)

pub returns-then-is_empty : goal.returns-then-is_empty
returns-then-is_empty c =
    λ h is. one_run c.text_is_unambiguous.ensures (doc_of c.args.document.now) c.args.events.now c.valid_law.ensures c.requires.journal h is
    ∙ no_event c.args.events.now c.is_empty.result c.is_empty.ensures c.if-is_empty.true

pub moment-requires-clause-run : goal.moment-requires-clause-run
moment-requires-clause-run c =
    (audited_with c.args.document.now.graph.graph c.copy.result c.args.inputs c.args.events.now c.as_slice-claims.result.now c.args.document.now.claims.items [] c.in-Run.complete c.in-Run.fails c.in-Run.other_end c.copy.ensures c.as_slice-claims.ensures.value c.in-Run.ensures.verdict).run

pub moment-requires-clause-first : goal.moment-requires-clause-first
moment-requires-clause-first c =
    (audited_with c.args.document.now.graph.graph c.copy.result c.args.inputs c.args.events.now c.as_slice-claims.result.now c.args.document.now.claims.items [] c.in-Run.complete c.in-Run.fails c.in-Run.other_end c.copy.ensures c.as_slice-claims.ensures.value c.in-Run.ensures.verdict).failure

pub returns-in_ok-moment-in-Run : goal.returns-in_ok-moment-in-Run
returns-in_ok-moment-in-Run c =
    let audited = audited_with c.args.document.now.graph.graph c.copy.result c.args.inputs c.args.events.now c.as_slice-claims.result.now c.args.document.now.claims.items [] c.in-Run.complete c.in-Run.fails c.in-Run.other_end c.copy.ensures c.as_slice-claims.ensures.value c.in-Run.ensures.verdict in
    record {
      events = c.args.events.now;
      run = record { inputs = c.args.inputs; known = c.requires.inputs; journal = c.requires.journal; run = audited.run };
      some = an_event c.args.events.now c.is_empty.result c.is_empty.ensures c.if-is_empty.false;
      shows = c.in_ok-moment-in-Run.ensures;
    }
