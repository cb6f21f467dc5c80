-- The members of a document, each by itself, and with one of them put in.
use Rattle.std.proofs.Common.{◌≡◌, ℕ, List, Bool, true, false, cond, Option, Some, codes, refl, sym, subst}
use Rattle.std.specs.Str.{bytes_eq}
use Rattle.std.proofs.lemmas.Slice.Eq.{bytes_eq-Decides}
use Rattle.serde_json.specs.Data as json
use Rattle.serde_json.specs.Data.{Data, object, put}
use Rattle.serde_json.specs.Find.{get, as_str}
use Rattle.serde_json.proofs.Views.{get_member-put}
use Rattle.tpl_json.specs.Members.{◌>>=◌, only_if, has_only, is_one_of, list_in, list_or_none, each}
use Rattle.tpl_json.proofs.Arrays.{bind_some, some_is}
use Rattle.tpl_json.proofs.Json.{only_is}
use Rattle.tpl_json.proofs.Puts.{only_put, other}
use Rattle.tpl_parts.specs.Tasks.{token_at}
use Rattle.tpl_parts.specs.Versions.{has_links}
use Rattle.tpl_parts.specs.Remarks.{note_at}
use Rattle.tpl_reader.specs.Top.{Members, version_at, text_or_empty, ends_or_none, times_or_none, top_names, top_at}

-- what stands at each name
abbrev pub Look : Type 0
Look = List ℕ → Option Data

pub record Parts (look : Look) (m : Members) : Type 0 where
  pub version : (look (codes "version") >>= version_at) ≡ Some m.version
  pub note : note_at (look (codes "note")) ≡ Some tt
  pub schema : (text : List ℕ) × (text_or_empty (look (codes "$schema")) ≡ Some text)
  pub ended : ends_or_none (look (codes "ended")) ≡ Some m.ended
  pub inputs : (list_or_none (look (codes "inputs")) >>= each as_str) ≡ Some m.inputs
  pub tokens : (list_or_none (look (codes "tokens")) >>= each (token_at (has_links m.version))) ≡ Some m.tokens
  pub tasks : (look (codes "tasks") >>= list_in) ≡ Some m.tasks
  pub claims : list_or_none (look (codes "claims")) ≡ Some m.claims
  pub certificate : list_or_none (look (codes "certificate")) ≡ Some m.certificate
  pub journal : text_or_empty (look (codes "journal")) ≡ Some m.journal
  pub times : times_or_none m.journal (look (codes "times")) ≡ Some m.times
  pub start : look (codes "start") ≡ m.start

-- what was read of each
pub parts_of : (d : Data) (m : Members) → top_at d ≡ Some m → (has_only (top_names m.version) d ≡ true) × Parts (λ name. get name d) m
unfolding top_at
parts_of d m e =
    let version = bind_some (get (codes "version") d >>= version_at) _ m e in
    let only = bind_some (only_if (has_only (top_names version.0) d)) _ m version.2 in
    let note = bind_some (note_at (get (codes "note") d)) _ m only.2 in
    let schema = bind_some (text_or_empty (get (codes "$schema") d)) _ m note.2 in
    let ended = bind_some (ends_or_none (get (codes "ended") d)) _ m schema.2 in
    let inputs = bind_some (list_or_none (get (codes "inputs") d) >>= each as_str) _ m ended.2 in
    let tokens = bind_some (list_or_none (get (codes "tokens") d) >>= each (token_at (has_links version.0))) _ m inputs.2 in
    let tasks = bind_some (get (codes "tasks") d >>= list_in) _ m tokens.2 in
    let claims = bind_some (list_or_none (get (codes "claims") d)) _ m tasks.2 in
    let certificate = bind_some (list_or_none (get (codes "certificate") d)) _ m claims.2 in
    let journal = bind_some (text_or_empty (get (codes "journal") d)) _ m certificate.2 in
    let times = bind_some (times_or_none journal.0 (get (codes "times") d)) _ m journal.2 in
    let whole : record { version = version.0; inputs = inputs.0; tokens = tokens.0; tasks = tasks.0; claims = claims.0; certificate = certificate.0; journal = journal.0; start = get (codes "start") d; ended = ended.0; times = times.0 } ≡ m = some_is _ m times.2 in
    subst (λ (x : Members). (has_only (top_names x.version) d ≡ true) × Parts (λ name. get name d) x) whole
    (only_is _ _ only.1, record { version = version.1; note = note.1; schema = (schema.0, schema.1); ended = ended.1; inputs = inputs.1; tokens = tokens.1; tasks = tasks.1; claims = claims.1; certificate = certificate.1; journal = journal.1; times = times.1; start = refl })

-- and the members that are made of them
pub top_of : (d : Data) (m : Members) → has_only (top_names m.version) d ≡ true → Parts (λ name. get name d) m → top_at d ≡ Some m
unfolding top_at
top_of d m only p = rw (p.version, only, p.note, p.schema.1, p.ended, p.inputs, p.tokens, p.tasks, p.claims, p.certificate, p.journal, p.times, p.start) refl

-- ---- one member is another

-- what stands at the names, but this at one of them
abbrev pub but : List ℕ → Option Data → Look → Look
but k o look name = cond (bytes_eq name k) o (look name)

pub moved : (look new : Look) (m : Members) → ((name : List ℕ) → look name ≡ new name) → Parts look m → Parts new m
moved look new m same p = record {
  version = subst (λ (o : Option Data). (o >>= version_at) ≡ Some m.version) (same (codes "version")) p.version;
  note = subst (λ (o : Option Data). note_at o ≡ Some tt) (same (codes "note")) p.note;
  schema = (p.schema.0, subst (λ (o : Option Data). text_or_empty o ≡ Some p.schema.0) (same (codes "$schema")) p.schema.1);
  ended = subst (λ (o : Option Data). ends_or_none o ≡ Some m.ended) (same (codes "ended")) p.ended;
  inputs = subst (λ (o : Option Data). (list_or_none o >>= each as_str) ≡ Some m.inputs) (same (codes "inputs")) p.inputs;
  tokens = subst (λ (o : Option Data). (list_or_none o >>= each (token_at (has_links m.version))) ≡ Some m.tokens) (same (codes "tokens")) p.tokens;
  tasks = subst (λ (o : Option Data). (o >>= list_in) ≡ Some m.tasks) (same (codes "tasks")) p.tasks;
  claims = subst (λ (o : Option Data). list_or_none o ≡ Some m.claims) (same (codes "claims")) p.claims;
  certificate = subst (λ (o : Option Data). list_or_none o ≡ Some m.certificate) (same (codes "certificate")) p.certificate;
  journal = subst (λ (o : Option Data). text_or_empty o ≡ Some m.journal) (same (codes "journal")) p.journal;
  times = subst (λ (o : Option Data). times_or_none m.journal o ≡ Some m.times) (same (codes "times")) p.times;
  start = subst (λ (o : Option Data). o ≡ m.start) (same (codes "start")) p.start;
}

put_by : (k name : List ℕ) (d : Data) (ms : json.Members) (b : Bool) → bytes_eq name k ≡ b → cond b (Some d) (get name (object ms)) ≡ get name (object (put k d ms))
put_by k name d ms true e = let same : name ≡ k = (bytes_eq-Decides name k).0 e in rw same (sym (get_member-put k d ms))
put_by k name d ms false e = other name k d ms e

-- a member that is put into a document
pub top_put : (k : List ℕ) (d : Data) (ms : json.Members) (m : Members) → is_one_of (top_names m.version) k ≡ true → has_only (top_names m.version) (object ms) ≡ true
    → Parts (but k (Some d) (λ name. get name (object ms))) m → top_at (object (put k d ms)) ≡ Some m
top_put k d ms m one only p =
    top_of (object (put k d ms)) m (only_put (top_names m.version) k d ms one only)
    (moved (but k (Some d) (λ name. get name (object ms))) (λ name. get name (object (put k d ms))) m (λ name. put_by k name d ms (bytes_eq name k) refl) p)
