-- What is answered of a claim: it holds, it fails, or neither is known.
use Rattle.std.specs.Prelude.{◌≡◌, ℕ, ◌≤◌, ◌⊎◌, Bool, true, false, List, [], ◌∷◌, Option, None, Some, IfSome, IsTrue, is_some, map}
use Rattle.tpl_model.specs.declared.ids.TaskId.{TaskId}
use Rattle.tpl_model.specs.declared.finals.Finals.{Finals}
use Rattle.tpl_model.specs.Finals.{has}
use Rattle.tpl_model.specs.Paths.{Known, MayThrow}
use Rattle.tpl_model.specs.declared.event.Event.{Event}
use Rattle.tpl_model.specs.declared.finals.Final.{Final}
use Rattle.tpl_model.specs.declared.claim.Given.{Given}
use Rattle.tpl_model.specs.declared.claim.Given.TheVariants.{Ended}
use Rattle.tpl_model.specs.declared.claim.Property.{Property}
use Rattle.tpl_model.specs.declared.claim.Property.TheVariants.{Final as EndsIn, After, Observed, Never, Excludes, Runs}
use Rattle.tpl_model.specs.Graph.{TaskGraph, body, kind, task}
use Rattle.tpl_model.specs.Rules.{Run, Complete, label}
use Rattle.tpl_model.specs.Claims.{Claim, IsGiven, Holds}
use Rattle.tpl_model.specs.declared.rule_set.RuleSet.{RuleSet}
use Rattle.tpl_model.specs.Certificate.{assumed, Tree}
use Rattle.tpl_graph.specs.Fits.{Fits, has_body}
use Rattle.tpl_laws.specs.ByRules.{AcceptsBy}
use Rattle.tpl_trees.specs.Heights.{height}
use Rattle.tpl_analyser.specs.declared.ran_out.RanOut.{RanOut}
use Rattle.tpl_refute.specs.Refuting.{Refutes}
use Rattle.tpl_verify.specs.declared.verdict.Empty.{Empty}
use Rattle.tpl_verify.specs.declared.verdict.Empty.TheVariants.{NeverBegins, NamesAllEnds, NamesGivenEnds, NeverThrows, NeverEndsSo, NeverEnds, NeverKept}
use Rattle.tpl_verify.specs.declared.verdict.Tried.{Tried}
use Rattle.tpl_verify.specs.declared.verdict.Verdict.{Verdict}
use Rattle.tpl_verify.specs.declared.verdict.Verdict.TheVariants as verdict

-- the claim holds in each run of the graph, for all inputs
abbrev pub HoldsAlways : TaskGraph → Claim → Type 0
HoldsAlways g claim = (v : List Bool) (h : List Event) → Run g v h → Holds g claim v h

-- the certificate is accepted for the claim by the rules: one tree, with n splits above its deepest leaf
pub record IsCertified (rules : RuleSet) (g : TaskGraph) (claim : Claim) (certificate : List Tree) (n : ℕ) : Type 0 where
  pub accepted : AcceptsBy rules g (claim ∷ []) certificate
  pub splits : map height certificate ≡ n ∷ []

-- a claim of another property under the same given
abbrev pub under : List Given → Property TaskId → Claim
under given body = record { given = given; body = body }

-- no end
abbrev pub no_end : Finals
no_end = record { ran = false; canceled = false; faulted = false }

-- the task never ends where this is given
abbrev pub HasNoEnd : TaskGraph → List Given → TaskId → Type 0
HasNoEnd g given t = HoldsAlways g (under given (EndsIn t no_end))

-- the property speaks only of what comes with the begin of the task: its end by its body, what is settled before, its
-- exception, another begin beside it
abbrev pub SpeaksOfBegin : Property TaskId → ℕ → Type 0
SpeaksOfBegin (EndsIn t ends) x = (x ≡ t.0) × ((ends.ran ≡ true) ⊎ (ends.faulted ≡ true))
SpeaksOfBegin (After a b) x = x ≡ b.0
SpeaksOfBegin (Observed t) x = x ≡ t.0
SpeaksOfBegin (Never t) x = ⊥
SpeaksOfBegin (Excludes a b) x = (x ≡ a.0) ⊎ (x ≡ b.0)
SpeaksOfBegin (Runs t) x = ⊥

-- a property about how a task ends lets it be canceled, which is how a task ends without a begin; or the task never ends
abbrev pub LetsBeCanceled : TaskGraph → List Given → Property TaskId → Type 0
LetsBeCanceled g given (EndsIn t ends) = (ends.canceled ≡ true) ⊎ HasNoEnd g given t
LetsBeCanceled g given body = Unit {0}

-- unless the task begins, the claim says nothing
pub record NeedsBegin (g : TaskGraph) (claim : Claim) (t : ℕ) : Type 0 where
  pub body : has_body (kind g t) ≡ true
  pub speaks : SpeaksOfBegin claim.body t
  pub canceled : LetsBeCanceled g claim.given claim.body

-- the property lets its task end in each way
abbrev pub EndsAnyhow : Property TaskId → Type 0
EndsAnyhow (EndsIn t ends) = (ends.ran ≡ true) × (ends.canceled ≡ true) × (ends.faulted ≡ true)
EndsAnyhow body = ⊥

-- what is given leaves the task this end
abbrev pub LeavesEnd : List Given → ℕ → Final → Type 0
LeavesEnd [] t f = Unit {0}
LeavesEnd (Ended s ends ∷ given) t f = (s.0 ≡ t → has ends f ≡ true) × LeavesEnd given t f
LeavesEnd (other ∷ given) t f = LeavesEnd given t f

-- the property lets its task end in each way that is left by what is given
abbrev pub EndsAsGiven : List Given → Property TaskId → Type 0
EndsAsGiven given (EndsIn t ends) = (f : Final) → LeavesEnd given t.0 f → has ends f ≡ true
EndsAsGiven given body = ⊥

-- ends of the task are given
abbrev pub IsEndGiven : List Given → ℕ → Type 0
IsEndGiven [] t = ⊥
IsEndGiven (Ended s ends ∷ given) t = (s.0 ≡ t) ⊎ IsEndGiven given t
IsEndGiven (other ∷ given) t = IsEndGiven given t

-- what the claim says is true as long as the task hasn't ended
abbrev pub HoldsBefore : TaskGraph → Claim → TaskId → Type 0
HoldsBefore g claim t = HoldsAlways g (under (Ended t no_end ∷ claim.given) claim.body)

-- the body of the task throws in no complete run of which what is given is true
abbrev pub HasNoLabel : TaskGraph → List Given → ℕ → Type 0
HasNoLabel g given t = (v : List Bool) (h : List Event) → Run g v h → Complete g v h → IsGiven g v h given → label g v h t ≡ None

-- each way to end
abbrev pub each_end : Finals
each_end = record { ran = true; canceled = true; faulted = true }

-- what is known of the runs in which this is given, however the task's subject ended
abbrev pub known_under : TaskGraph → List Given → ℕ → Known
known_under g given t = record {
  possible = (assumed g given).possible;
  quiet = (assumed g given).quiet;
  own = (task g t).token;
  subject = has each_end;
  sure = (assumed g given).sure;
}

-- no path of the task's body throws where this is given
abbrev pub ThrowsNowhere : TaskGraph → List Given → ℕ → Type 0
ThrowsNowhere g given t = MayThrow (known_under g given t) (body g t) → ⊥

-- the claim speaks of the exception of a body of which no path throws
abbrev pub LacksThrow : TaskGraph → Claim → Type 0
LacksThrow g claim = (t : TaskId) × (claim.body ≡ Observed t) × ThrowsNowhere g claim.given t.0

-- that the claim says nothing is seen without a certificate
abbrev pub IsPlainlyEmpty : TaskGraph → Claim → Type 0
IsPlainlyEmpty g claim = EndsAnyhow claim.body ⊎ EndsAsGiven claim.given claim.body ⊎ LacksThrow g claim

-- what is given is true of no complete run
abbrev pub IsNeverKept : TaskGraph → List Given → Type 0
IsNeverKept g given = (v : List Bool) (h : List Event) → Run g v h → Complete g v h → IsGiven g v h given → ⊥

-- the property speaks of the end of the task alone
abbrev pub SpeaksOfEnd : Property TaskId → TaskId → Type 0
SpeaksOfEnd (EndsIn t ends) x = x ≡ t
SpeaksOfEnd body x = ⊥

-- the property speaks of complete runs alone
abbrev pub SpeaksOfComplete : Property TaskId → Type 0
SpeaksOfComplete (Observed t) = Unit {0}
SpeaksOfComplete (Runs t) = Unit {0}
SpeaksOfComplete body = ⊥

-- why a claim says nothing: of a task that ends in none of the ways that are given, a claim says nothing once it has
-- ended, and only holds until then
abbrev pub IsEmpty : TaskGraph → Claim → Empty → Type 0
IsEmpty g claim (NeverBegins t) = NeedsBegin g claim t.0 × HoldsAlways g (under claim.given (Never t))
IsEmpty g claim NamesAllEnds = EndsAnyhow claim.body
IsEmpty g claim NamesGivenEnds = EndsAsGiven claim.given claim.body
IsEmpty g claim NeverThrows = (t : TaskId) × (claim.body ≡ Observed t) × HasNoLabel g claim.given t.0
IsEmpty g claim (NeverEndsSo t) = IsEndGiven claim.given t.0 × HasNoEnd g claim.given t × HoldsBefore g claim t
IsEmpty g claim (NeverEnds t) = SpeaksOfEnd claim.body t × HasNoEnd g claim.given t
IsEmpty g claim NeverKept = SpeaksOfComplete claim.body × IsNeverKept g claim.given

-- what says nothing is true: an empty claim that can be asked holds in each run
abbrev pub EmptyClaimsHold : Type 0
EmptyClaimsHold = (g : TaskGraph) (claim : Claim) (why : Empty) → Fits g claim → IsEmpty g claim why → HoldsAlways g claim

-- the claim holds always, by this certificate with this many splits; where it is said to say nothing, it does, and where
-- that is plain, it is said
pub record IsHeld (rules : RuleSet) (g : TaskGraph) (claim : Claim) (certificate : List Tree) (splits : ℕ) (why : Option Empty) : Type 0 where
  pub always : HoldsAlways g claim
  pub certified : IsCertified rules g claim certificate splits
  pub empty : IfSome why (IsEmpty g claim)
  pub plain : IsPlainlyEmpty g claim → IsTrue (is_some why)

-- a true verdict on a claim of which it isn't asked whether it says nothing
abbrev pub IsJudged : RuleSet → TaskGraph → Claim → Verdict → Type 0
IsJudged rules g claim (verdict.Holds certificate splits empty) = HoldsAlways g claim × IsCertified rules g claim certificate splits
IsJudged rules g claim (verdict.Fails run) = Refutes g claim run.inputs run.events.items
IsJudged rules g claim (verdict.Unknown tried) = Unit {0}

-- a true verdict on a claim
abbrev pub IsVerdict : RuleSet → TaskGraph → Claim → Verdict → Type 0
IsVerdict rules g claim (verdict.Holds certificate splits empty) = IsHeld rules g claim certificate splits empty
IsVerdict rules g claim (verdict.Fails run) = Refutes g claim run.inputs run.events.items
IsVerdict rules g claim (verdict.Unknown tried) = Unit {0}

-- at most so many random runs were made, and so many unless the events that may be played ran out
abbrev pub IsTried : ℕ → Tried → Type 0
IsTried runs tried = (tried.runs ≤ runs) × ((tried.runs ≡ runs) ⊎ IsTrue tried.events_ran_out)

-- a claim that holds does so by a certificate with at most so many splits, and one of which nothing is known was tried by so many runs
abbrev pub KeepsTo : (depth runs : ℕ) → Verdict → Type 0
KeepsTo depth runs (verdict.Holds certificate splits empty) = splits ≤ depth
KeepsTo depth runs (verdict.Fails run) = Unit {0}
KeepsTo depth runs (verdict.Unknown tried) = IsTried runs tried

-- where nothing is known of a claim, this is said to have run out in the search for a certificate
abbrev pub SaysRanOut : RanOut → Verdict → Type 0
SaysRanOut ran_out (verdict.Holds certificate splits empty) = Unit {0}
SaysRanOut ran_out (verdict.Fails run) = Unit {0}
SaysRanOut ran_out (verdict.Unknown tried) = tried.ran_out ≡ ran_out

-- the verdict is true of the claim, whatever it was found by
abbrev pub IsSo : TaskGraph → Claim → Verdict → Type 0
IsSo g claim (verdict.Holds certificate splits empty) = HoldsAlways g claim × IfSome empty (IsEmpty g claim)
IsSo g claim (verdict.Fails run) = Refutes g claim run.inputs run.events.items
IsSo g claim (verdict.Unknown tried) = Unit {0}
