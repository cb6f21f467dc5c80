-- A document with names, part by part.
use Rattle.std.proofs.Common.{◌≡◌, List, Option, Some, Ok, refl}
use Rattle.serde_json.specs.Data.{Data, Members as Object, object}
use Rattle.tpl_json.proofs.Puts.{is_object}
use Rattle.tpl_draft.specs.Draft.{Task}
use Rattle.tpl_parts.specs.NamedClaims.{NamedClaim}
use Rattle.tpl_parts.specs.Tasks.{task_at}
use Rattle.tpl_parts.specs.Claims.{claim_at}
use Rattle.tpl_parts.specs.Start.{NamedStart, start_or_none}
use Rattle.tpl_reader.specs.declared.fault.Part.TheVariants as part
use Rattle.tpl_reader.specs.Top.{Members, top_names, top_at}
use Rattle.tpl_reader.proofs.TopLaws.{parts_of}
use Rattle.tpl_json.proofs.Passes.{bind_ok, bind_or, ok_is}
use Rattle.tpl_reader.specs.Shape.{Spelled, parts_in, spelled_at}

-- what these are together
abbrev pub together : Members → List Task → List NamedClaim → Option NamedStart → Spelled
together m tasks claims start = record { version = m.version; draft = record { inputs = m.inputs; tokens = m.tokens; tasks = tasks }; claims = claims; certificate = m.certificate; journal = m.journal; start = start; ended = m.ended; times = m.times }

pub record Pieces (d : Data) (s : Spelled) : Type 0 where
  pub top : Members
  pub tasks : List Task
  pub claims : List NamedClaim
  pub start : Option NamedStart
  pub is_top : top_at d ≡ Some top
  pub are_tasks : parts_in part.Task (task_at top.version) top.tasks ≡ Ok tasks
  pub are_claims : parts_in part.Claim (claim_at top.version) top.claims ≡ Ok claims
  pub is_start : start_or_none top.start ≡ Some start
  pub whole : together top tasks claims start ≡ s

pub pieces_of : (d : Data) (s : Spelled) → spelled_at d ≡ Ok s → Pieces d s
unfolding spelled_at
pieces_of d s e =
    let top = bind_or (top_at d) part.Top _ s e in
    let tasks = bind_ok (parts_in part.Task (task_at top.0.version) top.0.tasks) _ s top.2 in
    let claims = bind_ok (parts_in part.Claim (claim_at top.0.version) top.0.claims) _ s tasks.2 in
    let start = bind_or (start_or_none top.0.start) part.Start _ s claims.2 in
    record {
      top = top.0;
      tasks = tasks.0;
      claims = claims.0;
      start = start.0;
      is_top = top.1;
      are_tasks = tasks.1;
      are_claims = claims.1;
      is_start = start.1;
      whole = ok_is _ s _ refl start.2;
    }

pub spelled_of : (d : Data) (s : Spelled) → Pieces d s → spelled_at d ≡ Ok s
unfolding spelled_at
spelled_of d s p = rw (p.is_top, p.are_tasks, p.are_claims, p.is_start, p.whole) refl

-- what spells a document is an object
pub spelled_object : (d : Data) (s : Spelled) → spelled_at d ≡ Ok s → (ms : Object) × (d ≡ object ms)
spelled_object d s is =
    let p = pieces_of d s is in
    is_object (top_names p.top.version) d (parts_of d p.top p.is_top).0
