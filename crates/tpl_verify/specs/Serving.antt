-- What was read and written, where a document was answered.
use Rattle.std.specs.Prelude.{◌≡◌, ℕ, Bool, List, Option, codes, length}
use Rattle.tpl_model.specs.declared.event.Event.{Event}
use Rattle.tpl_model.specs.Claims.{Claim}
use Rattle.tpl_draft.specs.Named.{Named}
use Rattle.tpl_journal.specs.Lines.{lines}
use Rattle.tpl_journal.specs.Writing.{Writes}
use Rattle.tpl_journal.specs.declared.counting.Counting.{Counting}
use Rattle.tpl_refute.specs.Refuting.{Refutes}
use Rattle.tpl_reader.specs.Document.{SpellsClaims, SpellsClaimsWith}
use Rattle.tpl_commands.specs.Documents.{Tells}
use Rattle.tpl_commands.specs.Responding.{Reads}
use Rattle.tpl_verify.specs.Asking.{IsAsked, IsKnown, IsNumbered}
use Rattle.tpl_verify.specs.Witness.{IsRefutation}

-- What was read spells a document, and that document was written with a run that refutes one of its claims.
abbrev pub Refuted : {R W : Type 0} → (R → Option (List ℕ)) → Counting R → Counting R → (W → Option (List ℕ)) → Counting W → Counting W → Option ℕ → Type 0
Refuted remaining from_old from_new contents to_old to_new asked = Tells (IsRefutation asked) remaining from_old from_new contents to_old to_new

-- What was read spells claims of a graph, and what was written spells the same ones with a run of it: inputs and a journal.
-- One of the claims that are searched doesn't hold of this run, and holds of each beginning of it.
pub record ShowsFailure {R W : Type 0} (remaining : R → Option (List ℕ)) (from_old from_new : Counting R) (contents : W → Option (List ℕ)) (to_old to_new : Counting W) (asked : Option ℕ) : Type 0 where
  pub input : List ℕ
  pub reads : Reads remaining from_old from_new input
  pub graph : Named
  pub claims : List Claim
  pub spelled : SpellsClaims input graph claims
  pub number : ℕ
  pub asks : IsAsked asked number
  pub claim : Claim
  pub numbered : IsNumbered claims number claim
  pub inputs : List Bool
  pub events : List Event
  pub refutes : Refutes graph.graph claim inputs events
  pub text : List ℕ
  pub written : SpellsClaimsWith text graph claims inputs (lines graph.names events)
  pub writes : Writes contents to_old to_new text

-- What was read spells a document that has the claim which is asked for, and `not refuted` was written.
abbrev pub Unrefuted : {R W : Type 0} → (R → Option (List ℕ)) → Counting R → Counting R → (W → Option (List ℕ)) → Counting W → Counting W → Option ℕ → Type 0
Unrefuted remaining from_old from_new contents to_old to_new asked =
    Tells (λ doc text. IsKnown (length doc.claims) asked × (text ≡ codes "not refuted\n")) remaining from_old from_new contents to_old to_new
