-- From a session's report to what tells its run.
use Rattle.std.proofs.Common.{◌≡◌, ◌∙◌, ℕ, ◌≤◌, Bool, true, false, List, [], length, Option, Some, None, ok_or, refl, sym, subst, inl, arith}
use Rattle.std.specs.Prelude.{reverse, nat_eq}
use Rattle.std.specs.Borrow.{Bor}
use Rattle.std.specs.List.{All}
use Rattle.std.proofs.lemmas.Bool.{eqb-true}
use Rattle.std.proofs.lemmas.List.{length-reverse}
use Rattle.tpl_laws.specs.Runs.{IsBounded}
use Rattle.tpl_graph.specs.Kept.{IsNamedGraph}
use Rattle.tpl_journal.specs.declared.counting.Counting.{Counting}
use Rattle.tpl_journal.specs.Lines.{CanSpell}
use Rattle.tpl_journal.specs.ReportText.{ReportValue, ReportText}
use Rattle.tpl_parts.specs.Start.{NamedStart}
use Rattle.tpl_reader.specs.declared.fault.StartFault.TheVariants.{Missing}
use Rattle.tpl_reader.specs.Begin.{StartValue, truth_at}
use Rattle.tpl_reader.specs.Document.{DocumentValue, Spells, longest}
use Rattle.tpl_json.proofs.Passes.{each_length}
use Rattle.tpl_reader.proofs.Begins.{AreParts, begin_parts}
use Rattle.tpl_reader.specs.Laws.{SpellsOneDocument}
use Rattle.tpl_reader.specs.Starting.{inputs_of, no_inputs, values_of}
use Rattle.tpl_verify.specs.Filled.{IsTextOf}
use Rattle.tpl_commands.specs.declared.exit.Exit.{Exit}
use Rattle.tpl_commands.specs.Responding.{Puts}
use Rattle.tpl_report.specs.Reported.{IsReport}
use Rattle.tpl_report.specs.Telling.{report_exit, with_events, PutsTelling}
use Rattle.tpl_report.specs.declared.telling.Telling.TheVariants.{Report, Whole}

-- a document gives each input of its graph a value

module _ (doc : DocumentValue) (inputs : List Bool) (named : IsNamedGraph doc.graph) where
  without_start : (b : Bool) → nat_eq doc.graph.graph.inputs 0 ≡ b → no_inputs b ≡ Some inputs → length inputs ≡ doc.graph.graph.inputs
  without_start true none e =
      let same : [] ≡ inputs = cc in
      subst (λ (i : List Bool). length i ≡ doc.graph.graph.inputs) same (sym (eqb-true doc.graph.graph.inputs 0 none))
  without_start false some e = absurd cc

  by_start : (o : Option NamedStart) (start : Option StartValue) → AreParts doc.graph o start → values_of start (no_inputs (nat_eq doc.graph.graph.inputs 0)) ≡ Some inputs → length inputs ≡ doc.graph.graph.inputs
  by_start None None is e = without_start (nat_eq doc.graph.graph.inputs 0) refl e
  by_start None (Some t) is e = absurd is
  by_start (Some s) None is e = absurd is
  by_start (Some s) (Some t) is e =
      let same : t.inputs ≡ inputs = cc in
      subst (λ (i : List Bool). length i ≡ doc.graph.graph.inputs) same (each_length (λ n name. ok_or (truth_at s.inputs name) Missing) 1 doc.graph.names.inputs t.inputs is.inputs ∙ named.inputs)

pub inputs_fit : (bytes : List ℕ) (doc : DocumentValue) (inputs : List Bool) → IsNamedGraph doc.graph → Spells bytes doc → inputs_of doc ≡ Some inputs → length inputs ≡ doc.graph.graph.inputs
inputs_fit bytes doc inputs named spelled known =
    let s = spelled.1.2.0 in
    by_start doc inputs named s.start doc.start (begin_parts doc.graph s.start s.ended doc.start spelled.1.2.2.start).1 known

-- what is written of a report tells its run

pub report_written : {W : Type 0} (doc : DocumentValue) (inputs : List Bool) (r : ReportValue) (contents : W → Option (List ℕ)) (old new : Counting W) (result : Exit) → Puts contents old new (report_exit r.complete) (ReportText doc.graph r) result
    → PutsTelling Report doc inputs r contents old new result
report_written doc inputs r contents old new result puts = record { exit = report_exit r.complete; text = ReportText doc.graph r; tells = inl (refl, refl); puts = puts }

pub whole_written : {W : Type 0} (bytes : Bor (List ℕ)) (doc : DocumentValue) (inputs : List Bool) (r : ReportValue) (text : List ℕ) (contents : W → Option (List ℕ)) (old new : Counting W) (result : Exit) → SpellsOneDocument → IsBounded → IsReport doc.graph inputs r
    → All (CanSpell doc.graph.graph) r.journal → IsTextOf text (with_events doc inputs r.journal) → length text ≤ longest → Puts contents old new (report_exit r.complete) text result → PutsTelling (Whole bytes) doc inputs r contents old new result
whole_written bytes doc inputs r text contents old new result one bounded is events of_text short puts =
    let spelled : Spells text (with_events doc inputs r.journal) = (short, of_text) in
    record {
      exit = report_exit r.complete;
      text = text;
      tells = inl (
        refl,
        record {
          journal = record {
            reads = refl;
            spelled = events;
            short = let le = bounded doc.graph.graph inputs (reverse r.journal) is.run in omega (arith, length-reverse r.journal);
          };
          spelled = spelled;
          only = λ other also. one text (with_events doc inputs r.journal) other spelled also;
        },
      );
      puts = puts;
    }
