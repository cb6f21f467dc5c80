-- A document without what was seen of a run is read as that.
use Rattle.std.proofs.Common.{◌≡◌, ℕ, ◌≤◌, List, [], Bool, true, false, cond, Option, Some, None, Ok, codes, refl, sym, ap, subst, arith}
use Rattle.std.specs.Str.{bytes_eq}
use Rattle.std.proofs.lemmas.Slice.Eq.{bytes_eq-Decides}
use Rattle.serde_json.specs.Data.{Data, Members, object, depth}
use Rattle.serde_json.specs.Find.{get}
use Rattle.tpl_json.specs.Members.{has_only}
use Rattle.tpl_model.specs.declared.finals.Final.{Final}
use Rattle.tpl_model.specs.declared.ids.TaskId.{TaskId}
use Rattle.tpl_parts.specs.Start.{NamedStart}
use Rattle.tpl_reader.specs.Begin.{StartValue, knows_members}
use Rattle.tpl_reader.specs.Top as top
use Rattle.tpl_reader.specs.Top.{ends_or_none, times_or_none, top_names, top_at}
use Rattle.tpl_reader.specs.Shape.{Spelled, spelled_at}
use Rattle.tpl_reader.specs.Bytes.{journal_in}
use Rattle.tpl_reader.specs.Document.{DocumentValue, IsDocument, begin_in}
use Rattle.tpl_reader.specs.Ends.{ends_in}
use Rattle.tpl_reader.proofs.Begins.{begin_parts, begin_of}
use Rattle.tpl_reader.proofs.TopLaws.{Parts, parts_of, top_of, but, moved}
use Rattle.tpl_reader.proofs.Pieces.{pieces_of, spelled_of}
use Rattle.tpl_verify.specs.Filled.{without, HasForm, IsUnseen}
use Rattle.tpl_verify.proofs.Without.{other_without, only_without, depth_without}

without_by : (k name : List ℕ) (ms : Members) → get k (object (without k ms)) ≡ None → (b : Bool) → bytes_eq name k ≡ b → cond b None (get name (object ms)) ≡ get name (object (without k ms))
without_by k name ms none true e = let same : name ≡ k = (bytes_eq-Decides name k).0 e in rw same (sym none)
without_by k name ms none false e = other_without name k ms e

-- a document without a member
top_without : (k : List ℕ) (ms : Members) (m : top.Members) → get k (object (without k ms)) ≡ None → has_only (top_names m.version) (object ms) ≡ true
    → Parts (but k None (λ name. get name (object ms))) m → top_at (object (without k ms)) ≡ Some m
top_without k ms m none only p =
    top_of (object (without k ms)) m (only_without (top_names m.version) k ms only)
    (moved (but k None (λ name. get name (object ms))) (λ name. get name (object (without k ms))) m (λ name. without_by k name ms none (bytes_eq name k) refl) p)

no_ends : ends_or_none None ≡ Some None
unfolding ends_or_none
no_ends = refl

no_times : (journal : List ℕ) → times_or_none journal None ≡ Some None
unfolding times_or_none
no_times journal = refl

top_unended : (ms : Members) (m : top.Members) → top_at (object ms) ≡ Some m → get (codes "ended") (object (without (codes "ended") ms)) ≡ None → top_at (object (without (codes "ended") ms)) ≡ Some (record m { ended = None })
top_unended ms m is none =
    let p = parts_of (object ms) m is in
    let q = p.1 in
    top_without (codes "ended") ms (record m { ended = None }) none p.0
    (record { version = q.version; note = q.note; schema = q.schema; ended = no_ends; inputs = q.inputs; tokens = q.tokens; tasks = q.tasks; claims = q.claims; certificate = q.certificate; journal = q.journal; times = q.times; start = q.start })

top_untimed : (ms : Members) (m : top.Members) → top_at (object ms) ≡ Some m → get (codes "times") (object (without (codes "times") ms)) ≡ None → top_at (object (without (codes "times") ms)) ≡ Some (record m { times = None })
top_untimed ms m is none =
    let p = parts_of (object ms) m is in
    let q = p.1 in
    top_without (codes "times") ms (record m { times = None }) none p.0
    (record { version = q.version; note = q.note; schema = q.schema; ended = q.ended; inputs = q.inputs; tokens = q.tokens; tasks = q.tasks; claims = q.claims; certificate = q.certificate; journal = q.journal; times = no_times m.journal; start = q.start })

spelled_in : (ms : Members) (s : Spelled) → spelled_at (object ms) ≡ Ok s → get (codes "ended") (object (without (codes "ended") ms)) ≡ None → get (codes "times") (object (without (codes "times") (without (codes "ended") ms))) ≡ None
    → spelled_at (object (without (codes "times") (without (codes "ended") ms))) ≡ Ok (record s { ended = None; times = None })
spelled_in ms s is none_ended none_times =
    let p = pieces_of (object ms) s is in
    let unended = without (codes "ended") ms in
    let less = top_untimed unended (record p.top { ended = None }) (top_unended ms p.top p.is_top none_ended) none_times in
    spelled_of (object (without (codes "times") unended)) (record s { ended = None; times = None })
    (record { top = record p.top { ended = None; times = None }; tasks = p.tasks; claims = p.claims; start = p.start; is_top = less; are_tasks = p.are_tasks; are_claims = p.are_claims; is_start = p.is_start; whole = ap (λ (z : Spelled). record z { ended = None; times = None }) p.whole })

pub spelled_unseen : (old new : Data) (s : Spelled) → spelled_at old ≡ Ok s → IsUnseen old new → spelled_at new ≡ Ok (record s { ended = None; times = None })
spelled_unseen old new s is unseen =
    subst (λ (d : Data). spelled_at d ≡ Ok (record s { ended = None; times = None })) (sym unseen.new_is) (spelled_in unseen.members s (subst (λ (d : Data). spelled_at d ≡ Ok s) unseen.old_is is) unseen.no_ended unseen.no_times)

-- the document with all that isn't of a run, and this of another
pub document_with : (s : Spelled) (doc : DocumentValue) (text journal : List ℕ) (named : Option NamedStart) (start : Option StartValue) (said : Option Data) (ended : List (TaskId × Final)) (given times : Option (List ℕ))
    → IsDocument s doc → journal ≡ journal_in s.version text → begin_in doc.graph named said ≡ Ok start → ended ≡ ends_in doc.graph.names.tasks said → times ≡ given
    → IsDocument (record s { journal = text; start = named; ended = said; times = given }) (record doc { journal = journal; start = start; ended = ended; times = times })
document_with s doc text journal named start said ended given times is reads starts ends timed =
    record { version = is.version; valid = is.valid; graph = is.graph; claims = is.claims; names = is.names; certificate = is.certificate; journal = reads; start = starts; ended = ends; times = timed }

pub document_unseen : (s : Spelled) (doc : DocumentValue) → IsDocument s doc → IsDocument (record s { ended = None; times = None }) (record doc { ended = []; times = None })
unfolding knows_members
document_unseen s doc is =
    let starts = begin_of doc.graph s.start None doc.start refl (begin_parts doc.graph s.start s.ended doc.start is.start).1 in
    document_with s doc s.journal doc.journal s.start doc.start None [] None None is is.journal starts refl refl

pub depth_unseen : (old new : Data) → depth old ≤ 127 → IsUnseen old new → depth new ≤ 127
depth_unseen old new le unseen =
    let whole : depth (object unseen.members) ≤ 127 = subst (λ (d : Data). depth d ≤ 127) unseen.old_is le in
    let less = depth_without (codes "ended") unseen.members 126 (omega arith) in
    let least = depth_without (codes "times") (without (codes "ended") unseen.members) 126 less in
    subst (λ (d : Data). depth d ≤ 127) (sym unseen.new_is) (omega arith)

pub form_unseen : (old new : Data) → HasForm old → IsUnseen old new → HasForm new
form_unseen old new form unseen = (record form.0 { ended = None; times = None }, spelled_unseen old new form.0 form.1 unseen)
