use Rattle.std.proofs.Common.{◌≡◌, ◌≤◌, Bool, List, ℕ, ap, sym, subst, ◌∙◌, string_bytes, length, inr, arith}
use Rattle.std.specs.List.{All}
use Rattle.tpl_journal.specs.Lines.{CanSpell, lines}
use Rattle.tpl_model.specs.declared.event.Event.{Event}
use Rattle.tpl_reader.specs.Document.{DocumentValue, longest}
use Rattle.tpl_reader.specs.SeenDocument.{doc_of}
use Rattle.tpl_verify.specs.Filled.{IsTextOf, with_run}
use Rattle.tpl_verify.specs.Witness.{refuted_by}
use Rattle.tpl_verify.proofs.Answering.{Laws, refuted}
use Rattle.tpl_verify.proofs.refuting.refutation.Goals as goal

-- the text of a document with the lines of these events
filled_in : (doc : DocumentValue) (inputs : List Bool) (events given : List Event) (journal text : List ℕ) → given ≡ events → journal ≡ lines doc.graph.names given → IsTextOf text (with_run doc inputs journal) → IsTextOf text (refuted_by doc inputs events)
filled_in doc inputs events given journal text same reads is = subst (λ (j : List ℕ). IsTextOf text (with_run doc inputs j)) (reads ∙ ap (lines doc.graph.names) same) is

pub journal_text-requires : goal.journal_text-requires
journal_text-requires g c =
    let graph = c.args.document.now.graph.graph in
    let events = c.args.found.run.events.items in
    let can : All (CanSpell graph) events = c.spells_run.ensures graph c.args.found.run.inputs events c.requires.found.refutes.run c.requires.found.refutes.seats in
    subst (λ (h : List Event). All (CanSpell graph) h) (sym c.as_slice-events.ensures.value) can

pub returns-then-len-gt-LONGEST : goal.returns-then-len-gt-LONGEST
returns-then-len-gt-LONGEST g c =
    let doc = doc_of c.args.document.now in
    let inputs = c.args.found.run.inputs in
    let events = c.args.found.run.events.items in
    let text = string_bytes c.in_ok-text.text in
    let is = filled_in doc inputs events _ _ text c.as_slice-events.ensures.value c.in_ok-journal.ensures.lines c.in_ok-text.ensures.text in
    inr (record {
      number = c.args.found.number;
      inputs = inputs;
      events = events;
      found = c.requires.found;
      bytes = text;
      text_of = is;
      long = let long = c.if-len-gt-LONGEST.true in omega (arith, c.len.ensures);
      said = c.in_ok-from_str.ensures.ok;
    })

pub returns : goal.returns
returns g c =
    let doc = doc_of c.args.document.now in
    let inputs = c.args.found.run.inputs in
    let events = c.args.found.run.events.items in
    let text = string_bytes c.in_ok-text.text in
    let is = filled_in doc inputs events _ _ text c.as_slice-events.ensures.value c.in_ok-journal.ensures.lines c.in_ok-text.ensures.text in
    let laws : Laws = record {
      one = c.one_document.ensures.one;
      faultless = c.one_document.ensures.faultless;
      bounded = c.is_bounded.ensures;
      prefix = c.prefix_is_run.ensures;
      spells = c.spells_run.ensures;
      unambiguous = c.text_is_unambiguous.ensures;
      no_journal = c.fault_is_no_journal.ensures;
      sound = c.sound_by_rules.ensures;
    } in
    let short : length text ≤ longest = let le = c.if-len-gt-LONGEST.false in omega (arith, c.len.ensures) in
    refuted laws c.args.search.claim doc c.args.found.number inputs events text c.valid_law.ensures c.requires.found is short c.in_ok-text.ensures.compact
