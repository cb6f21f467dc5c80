use Rattle.std.proofs.Common.{subst, List}
use Rattle.tpl_audit.specs.Audit.{IsFirstRefused}
use Rattle.tpl_model.specs.declared.event.Event.{Event}
use Rattle.tpl_reader.specs.SeenDocument.{doc_of}
use Rattle.tpl_commands.proofs.RunLemmas.{no_run}
use Rattle.tpl_trace.proofs.answering.journal_with.Goals as goal

pub returns-in-NotAllowed : goal.returns-in-NotAllowed
returns-in-NotAllowed c =
    let doc = doc_of c.args.document.now in
    let journal = rw c.as_str.ensures.value at c.in-Ok.ensures.journal in
    let refused = subst (λ (h : List Event). IsFirstRefused c.args.document.now.graph.graph c.args.inputs h c.in-NotAllowed.place) c.as_slice.ensures.value c.in-NotAllowed.ensures.verdict in (
      record {
        inputs = c.args.inputs;
        known = c.requires;
        events = c.in-Ok.events.items;
        journal = journal;
        audited = refused;
        sound = λ accepted. tt;
      },
      no_run c.text_is_unambiguous.ensures c.prefix_is_run.ensures doc c.args.inputs c.in-Ok.events.items c.in-NotAllowed.place c.valid_law.ensures c.requires journal refused,
    )
