-- A document with other inputs and another journal is read as that.
use Rattle.std.proofs.Common.{◌≡◌, ℕ, ◌≤◌, List, [], Bool, Option, Some, None, Ok, length, codes, refl, sym, ap, subst, ◌∙◌, arith}
use Rattle.serde_json.specs.Data.{Data, Members, string, object, put, depth}
use Rattle.serde_json.specs.Find.{get}
use Rattle.tpl_json.specs.Members.{◌>>=◌, only_if, list_in, each}
use Rattle.tpl_json.proofs.Arrays.{bind_some, some_is}
use Rattle.tpl_reader.specs.Top as top
use Rattle.tpl_reader.specs.Top.{whole_at, are_times, text_or_empty, times_or_none, top_at}
use Rattle.tpl_parts.specs.Start.{NamedStart, start_or_none}
use Rattle.tpl_reader.specs.Shape.{Spelled, spelled_at}
use Rattle.tpl_reader.specs.Bytes.{without_returns}
use Rattle.tpl_reader.specs.Document.{DocumentValue, IsDocument, Reads, Spells}
use Rattle.tpl_verify.proofs.Plain.{plain_in}
use Rattle.tpl_json.proofs.Json.{some, get_depth}
use Rattle.tpl_reader.proofs.Begins.{begin_parts, begin_of}
use Rattle.tpl_reader.proofs.OneDocument.{value_same}
use Rattle.tpl_reader.proofs.TopLaws.{parts_of, top_put}
use Rattle.tpl_reader.proofs.Pieces.{pieces_of, spelled_of, spelled_object}
use Rattle.tpl_verify.specs.Filled.{IsStartWith, IsUnseenOf, IsFilled, HasForm, IsTextOf, start_data, started, with_run}
use Rattle.tpl_verify.proofs.Unseen.{document_unseen, document_with, spelled_unseen}
use Rattle.tpl_json.proofs.Puts.{depth_put}
use Rattle.tpl_verify.proofs.Starts.{named_with, named_start, start_object, start_value, start_depth}

-- ---- a member of the top that is put

any_times : (journal text : List ℕ) (o : Option Data) (times : Option (List ℕ)) → times ≡ None → times_or_none journal o ≡ Some times → times_or_none text o ≡ Some times
unfolding times_or_none
any_times journal text None times e p = p
any_times journal text (Some d) times e p =
    let numbers = bind_some (list_in d >>= each whole_at) _ times p in
    let fit = bind_some (only_if (are_times journal numbers.0)) _ times numbers.2 in
    absurd (apart numbers.0 (some_is (Some numbers.0) times fit.2 ∙ e))
  where
    apart : (ns : List ℕ) → Some ns ≡ None → ⊥
    apart ns e = cc

read_journal : (text : List ℕ) → text_or_empty (Some (string text)) ≡ Some text
unfolding text_or_empty
read_journal text = refl

module _ (ms : Members) (m : top.Members) (is : top_at (object ms) ≡ Some m) where
  top_start : (d : Data) → top_at (object (put (codes "start") d ms)) ≡ Some (record m { start = Some d })
  top_start d =
      let p = parts_of (object ms) m is in
      let q = p.1 in
      top_put (codes "start") d ms (record m { start = Some d }) refl p.0
      (record { version = q.version; note = q.note; schema = q.schema; ended = q.ended; inputs = q.inputs; tokens = q.tokens; tasks = q.tasks; claims = q.claims; certificate = q.certificate; journal = q.journal; times = q.times; start = refl })

  -- where there are no times of the lines of another journal
  top_journal : (text : List ℕ) → m.times ≡ None → top_at (object (put (codes "journal") (string text) ms)) ≡ Some (record m { journal = text })
  top_journal text no_times =
      let p = parts_of (object ms) m is in
      let q = p.1 in
      let times = any_times m.journal text (get (codes "times") (object ms)) m.times no_times q.times in
      top_put (codes "journal") (string text) ms (record m { journal = text }) refl p.0
      (record { version = q.version; note = q.note; schema = q.schema; ended = q.ended; inputs = q.inputs; tokens = q.tokens; tasks = q.tasks; claims = q.claims; certificate = q.certificate; journal = read_journal text; times = times; start = q.start })

-- ---- the document with names

spelled_start : (ms : Members) (s : Spelled) (d : Data) (start : NamedStart) → spelled_at (object ms) ≡ Ok s → start_or_none (Some d) ≡ Some (Some start) → spelled_at (object (put (codes "start") d ms)) ≡ Ok (record s { start = Some start })
spelled_start ms s d start is starts =
    let p = pieces_of (object ms) s is in
    spelled_of (object (put (codes "start") d ms)) (record s { start = Some start })
    (record { top = record p.top { start = Some d }; tasks = p.tasks; claims = p.claims; start = Some start; is_top = top_start ms p.top p.is_top d; are_tasks = p.are_tasks; are_claims = p.are_claims; is_start = starts; whole = ap (λ (z : Spelled). record z { start = Some start }) p.whole })

spelled_journal : (ms : Members) (s : Spelled) (text : List ℕ) → s.times ≡ None → spelled_at (object ms) ≡ Ok s → spelled_at (object (put (codes "journal") (string text) ms)) ≡ Ok (record s { journal = text })
spelled_journal ms s text no_times is =
    let p = pieces_of (object ms) s is in
    let times = ap (λ (z : Spelled). z.times) p.whole ∙ no_times in
    spelled_of (object (put (codes "journal") (string text) ms)) (record s { journal = text })
    (record { top = record p.top { journal = text }; tasks = p.tasks; claims = p.claims; start = p.start; is_top = top_journal ms p.top p.is_top text times; are_tasks = p.are_tasks; are_claims = p.are_claims; is_start = p.is_start; whole = ap (λ (z : Spelled). record z { journal = text }) p.whole })

-- the start as it stands in the document
spelled_begin : (d : Data) (s : Spelled) → spelled_at d ≡ Ok s → start_or_none (get (codes "start") d) ≡ Some s.start
spelled_begin d s is =
    let p = pieces_of d s is in
    let q = (parts_of d p.top p.is_top).1 in
    ap start_or_none q.start ∙ p.is_start ∙ ap (λ (z : Spelled). some z.start) p.whole

-- what has the form of a document is an object, and so is its start
pub form_object : (d : Data) → HasForm d → (ms : Members) × (d ≡ object ms)
form_object d form = spelled_object d form.0 form.1

pub form_start : (d : Data) → HasForm d → (ms : Members) × (start_data (get (codes "start") d) ≡ object ms)
form_start d form = start_object (get (codes "start") d) form.0.start (spelled_begin d form.0 form.1)

spelled_run : (names : List (List ℕ)) (values : List Bool) (text : List ℕ) (old new start : Data) (s : Spelled) → s.times ≡ None → spelled_at old ≡ Ok s → (with : IsStartWith names values (get (codes "start") old) start) → IsFilled start text old new
    → spelled_at new ≡ Ok (record s { journal = text; start = Some (named_with (object with.inputs) s.start) })
spelled_run names values text old new start s no_times is with filled =
    let named = named_with (object with.inputs) s.start in
    let starts = named_start names values (get (codes "start") old) s.start start (spelled_begin old s is) with in
    let here : spelled_at (object filled.members) ≡ Ok s = subst (λ (d : Data). spelled_at d ≡ Ok s) filled.old_is is in
    subst (λ (d : Data). spelled_at d ≡ Ok (record s { journal = text; start = Some named })) (sym filled.new_is)
    (spelled_journal (put (codes "start") start filled.members) (record s { start = Some named }) text no_times (spelled_start filled.members s start named here starts))

-- ---- the document with ids

document_run : (s : Spelled) (doc : DocumentValue) (values : List Bool) (text : List ℕ) (old : Option Data) (new : Data) → IsDocument s doc → without_returns text ≡ text → length values ≡ length doc.graph.names.inputs
    → (has : IsStartWith doc.graph.names.inputs values old new)
    → IsDocument (record s { journal = text; start = Some (named_with (object has.inputs) s.start) }) (record doc { journal = text; start = Some (started doc.start values) })
document_run s doc values text old new is plain count has =
    let named = Some (named_with (object has.inputs) s.start) in
    let start = Some (started doc.start values) in
    let parts = begin_parts doc.graph s.start s.ended doc.start is.start in
    let starts = begin_of doc.graph named s.ended start parts.0 (start_value doc.graph values has.inputs s.start doc.start count has.all parts.1) in
    document_with s doc text text named start s.ended doc.ended s.times doc.times is (sym (plain_in s.version text plain)) starts is.ended is.times

pub text_of : (bytes text : List ℕ) (doc : DocumentValue) (values : List Bool) (journal : List ℕ) (old new start : Data) → Spells bytes doc → IsUnseenOf bytes old → Reads text new → without_returns journal ≡ journal → length values ≡ length doc.graph.names.inputs
    → IsStartWith doc.graph.names.inputs values (get (codes "start") old) start → IsFilled start journal old new → IsTextOf text (with_run doc values journal)
text_of bytes text doc values journal old new start spells unseen reads plain count with filled =
    let s = record spells.1.2.0 { ended = None; times = None } in
    let is : spelled_at old ≡ Ok s = spelled_unseen unseen.0 old spells.1.2.0 (subst (λ (d : Data). spelled_at d ≡ Ok spells.1.2.0) (value_same bytes spells.1.0 unseen.0 spells.1.1 unseen.1) spells.1.2.1) unseen.2 in
    let doc_unseen = record doc { ended = []; times = None } in (
      new,
      reads,
      (
        record s { journal = journal; start = Some (named_with (object with.inputs) s.start) },
        spelled_run doc.graph.names.inputs values journal old new start s refl is with filled,
        document_run s doc_unseen values journal (get (codes "start") old) start (document_unseen spells.1.2.0 doc spells.1.2.2) plain count with,
      ),
    )

pub form_of : (bytes : List ℕ) (doc : DocumentValue) (d : Data) → Spells bytes doc → Reads bytes d → HasForm d
form_of bytes doc d spells here = (spells.1.2.0, subst (λ (x : Data). spelled_at x ≡ Ok spells.1.2.0) (value_same bytes spells.1.0 d spells.1.1 here) spells.1.2.1)

-- ---- how deep it nests

old_start_depth : (d : Data) (o : Option Data) → depth d ≤ 127 → get (codes "start") d ≡ o → depth (start_data o) ≤ 126
old_start_depth d None le e = omega arith
old_start_depth d (Some x) le e = get_depth (codes "start") d x 126 (omega arith) e

pub run_depth : (names : List (List ℕ)) (values : List Bool) (journal : List ℕ) (old new start : Data) → depth old ≤ 127 → IsStartWith names values (get (codes "start") old) start → IsFilled start journal old new → depth new ≤ 127
run_depth names values journal old new start le with filled =
    let start_le = start_depth names values (get (codes "start") old) start 126 (omega arith) (old_start_depth old (get (codes "start") old) le refl) with in
    let old_le : depth (object filled.members) ≤ 127 = subst (λ (d : Data). depth d ≤ 127) filled.old_is le in
    let first = depth_put (codes "start") start filled.members 126 start_le (omega arith) in
    let both = depth_put (codes "journal") (string journal) (put (codes "start") start filled.members) 126 (omega arith) first in
    subst (λ (d : Data). depth d ≤ 127) (sym filled.new_is) (omega arith)
