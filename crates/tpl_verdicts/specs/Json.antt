-- The verdicts as a JSON value.
use Rattle.std.specs.Prelude.{◌≡◌, ℕ, Option, Some, None, List, [], ◌∷◌, ◌++◌, codes, length, map, string_bytes}
use Rattle.serde_json.specs.Data.{Data, Members, array, boolean, member, no_members, number, object, put, string, unsigned}
use Rattle.serde_json.specs.Read.{read}
use Rattle.serde_json.specs.View.{items_of}
use Rattle.tpl_model.specs.declared.rule_set.RuleSet.{RuleSet}
use Rattle.tpl_model.specs.Certificate.{Tree}
use Rattle.tpl_model.specs.Claims.{Claim}
use Rattle.tpl_cert.specs.Written.{tree_data}
use Rattle.tpl_reader.specs.Laws.{IsReadBack}
use Rattle.tpl_draft.specs.Named.{Names}
use Rattle.tpl_journal.specs.Lines.{lines, task_name}
use Rattle.tpl_causes.specs.Causes.{AreCauses}
use Rattle.tpl_causes.specs.declared.cause.Cause.{Cause}
use Rattle.tpl_analyser.specs.declared.ran_out.RanOut.{RanOut}
use Rattle.tpl_analyser.specs.declared.ran_out.RanOut.TheVariants.{Depth, Leaves, Trees}
use Rattle.tpl_refute.specs.declared.counterexample.Counterexample.{Counterexample}
use Rattle.tpl_verify.specs.Filled.{AreFirst}
use Rattle.tpl_verify.specs.declared.verdict.Empty as reasons
use Rattle.tpl_verify.specs.declared.verdict.Empty.TheVariants.{NeverBegins, NamesAllEnds, NamesGivenEnds, NeverThrows, NeverEndsSo, NeverEnds, NeverKept}
use Rattle.tpl_verify.specs.declared.verdict.Tried.{Tried}
use Rattle.tpl_verify.specs.declared.verdict.Verdict.{Verdict}
use Rattle.tpl_verify.specs.declared.verdict.Verdict.TheVariants as verdict
use Rattle.tpl_reasons.specs.Words.{claim_words}
use Rattle.tpl_verdicts.specs.declared.word.Word.{Word}
use Rattle.tpl_verdicts.specs.declared.word.Word.TheVariants.{Holds, Fails, Empty, Unknown}
use Rattle.tpl_verdicts.specs.Told.{Told}
use Rattle.tpl_verdicts.specs.Words.{count_of, word_of, word_text}
use Rattle.tpl_verdicts.specs.Lines.{AreNumbered}

-- a number as a JSON value
abbrev pub number_data : ℕ → Data
number_data n = number (unsigned n)

-- why a claim says nothing, and which task never begins or ends
abbrev pub why_data : Names → reasons.Empty → Data
why_data names (NeverBegins t) =
    object (member (codes "task") (string (task_name names t)) (member (codes "why") (string (codes "NeverBegins")) no_members))
why_data names NamesAllEnds = object (member (codes "why") (string (codes "NamesAllEnds")) no_members)
why_data names NamesGivenEnds = object (member (codes "why") (string (codes "NamesGivenEnds")) no_members)
why_data names NeverThrows = object (member (codes "why") (string (codes "NeverThrows")) no_members)
why_data names (NeverEndsSo t) =
    object (member (codes "task") (string (task_name names t)) (member (codes "why") (string (codes "NeverEndsSo")) no_members))
why_data names (NeverEnds t) =
    object (member (codes "task") (string (task_name names t)) (member (codes "why") (string (codes "NeverEnds")) no_members))
why_data names NeverKept = object (member (codes "why") (string (codes "NeverKept")) no_members)

-- what ran out in a search
abbrev pub ran_out_word : RanOut → List ℕ
ran_out_word Depth = codes "Depth"
ran_out_word Leaves = codes "Leaves"
ran_out_word Trees = codes "Trees"

-- how far a claim was tried
abbrev pub tried_data : Tried → Data
tried_data tried =
    object (member (codes "events_ran_out") (boolean tried.events_ran_out) (member (codes "ran_out") (string (ran_out_word tried.ran_out)) (member (codes "runs") (number_data tried.runs) no_members)))

-- a run: how many events it has, the values of the inputs by their names, and the text of its journal
abbrev pub IsRunData : Names → Counterexample → Data → Type 0
IsRunData names run d =
    (inputs : Members) × AreFirst names.inputs run.inputs (length names.inputs) inputs
    × (d ≡ object (member (codes "events") (number_data (length run.events.items)) (member (codes "inputs") (object inputs) (member (codes "journal") (string (lines names run.events.items)) no_members))))

-- the value is the one that is written for the certificate's only tree in a document, where it is read as that tree
pub record IsTreeData (rules : RuleSet) (names : Names) (certificate : List Tree) (d : Data) : Type 0 where
  pub tree : Tree
  pub only : certificate ≡ tree ∷ []
  pub written : d ≡ tree_data rules names tree
  pub back : IsReadBack rules names tree

-- the value for a claim that holds, with the tree of its certificate
abbrev pub held_data : (n splits : ℕ) → (words : List ℕ) → (tree : Data) → Data
held_data n splits words tree =
    object (member (codes "claim") (number_data n) (member (codes "splits") (number_data splits) (member (codes "text") (string words) (member (codes "tree") tree (member (codes "verdict") (string (word_text Holds)) no_members)))))

-- the value for a claim that holds and says nothing
abbrev pub empty_data : (n : ℕ) → (why : Data) → (splits : ℕ) → (words : List ℕ) → (tree : Data) → Data
empty_data n why splits words tree =
    object (member (codes "claim") (number_data n) (member (codes "empty") why (member (codes "splits") (number_data splits) (member (codes "text") (string words) (member (codes "tree") tree (member (codes "verdict") (string (word_text Empty)) no_members))))))

-- an event that led to where a claim fails: its place in the run, that of the event to which it led, and what it did
abbrev pub cause_data : Cause → Data
cause_data cause =
    object (member (codes "event") (number_data cause.event) (member (codes "led_to") (number_data cause.led_to) (member (codes "says") (string (string_bytes cause.says)) no_members)))

-- the values are those of causes in the run, each of which is an event of it, in its order
abbrev pub AreCausesData : Counterexample → List Data → Type 0
AreCausesData run values = (causes : List Cause) × AreCauses (length run.events.items) causes × (values ≡ map cause_data causes)

-- the value for a claim that fails
abbrev pub failed_data : (n : ℕ) → (causes : List Data) → (run : Data) → (words : List ℕ) → Data
failed_data n causes run words =
    object (member (codes "causes") (array (items_of causes)) (member (codes "claim") (number_data n) (member (codes "run") run (member (codes "text") (string words) (member (codes "verdict") (string (word_text Fails)) no_members)))))

-- the value for the claim of this number that fails in a run has that run, and causes in it
abbrev pub IsFailedData : Names → ℕ → Claim → Counterexample → Data → Type 0
IsFailedData names n claim run d =
    (causes : List Data) × (there : Data) × AreCausesData run causes × IsRunData names run there
    × (d ≡ failed_data n causes there (claim_words names claim))

-- the value for a claim of which nothing is known
abbrev pub unknown_data : (n : ℕ) → (words : List ℕ) → (tried : Data) → Data
unknown_data n words tried =
    object (member (codes "claim") (number_data n) (member (codes "text") (string words) (member (codes "tried") tried (member (codes "verdict") (string (word_text Unknown)) no_members))))

-- the value for the claim of this number says what its verdict says
abbrev pub IsClaimData : RuleSet → Names → ℕ → Claim → Verdict → Data → Type 0
IsClaimData rules names n claim (verdict.Holds certificate splits None) d =
    (tree : Data) × IsTreeData rules names certificate tree × (d ≡ held_data n splits (claim_words names claim) tree)
IsClaimData rules names n claim (verdict.Holds certificate splits (Some why)) d =
    (tree : Data) × IsTreeData rules names certificate tree
    × (d ≡ empty_data n (why_data names why) splits (claim_words names claim) tree)
IsClaimData rules names n claim (verdict.Fails run) d = IsFailedData names n claim run d
IsClaimData rules names n claim (verdict.Unknown tried) d =
    d ≡ unknown_data n (claim_words names claim) (tried_data tried)

-- the value with the name of the claim, if it has one
abbrev pub IsNamed : Option (List ℕ) → Data → Data → Type 0
IsNamed None plain d = d ≡ plain
IsNamed (Some name) plain d = (ms : Members) × (plain ≡ object ms) × (d ≡ object (put (codes "name") (string name) ms))

-- the value for the claim of this number says what its verdict says, and its name, if it has one
abbrev pub IsNamedData : RuleSet → Names → ℕ → Told → Data → Type 0
IsNamedData rules names n told d =
    (plain : Data) × IsClaimData rules names n told.claim told.verdict plain × IsNamed told.name plain d

-- how many claims there are, and how many of each word
abbrev pub sums_data : List Word → Data
sums_data words =
    object (member (codes "claims") (number_data (length words)) (member (codes "empty") (number_data (count_of words Empty)) (member (codes "fails") (number_data (count_of words Fails)) (member (codes "holds") (number_data (count_of words Holds)) (member (codes "unknown") (number_data (count_of words Unknown)) no_members)))))

-- the whole value, with one for each claim
abbrev pub verdicts_data : List Data → List Word → Data
verdicts_data claims words = object (member (codes "claims") (array (items_of claims)) (member (codes "sums") (sums_data words) no_members))

-- the text is read as a value that says of each claim what its verdict says, in their order; a line break follows
abbrev pub IsJson : RuleSet → Names → List Told → List Verdict → List ℕ → Type 0
IsJson rules names claims verdicts text =
    (values : List Data) × (json : List ℕ) × AreNumbered (IsNamedData rules names) 1 claims values
    × (read json ≡ Some (verdicts_data values (map word_of verdicts))) × (text ≡ json ++ codes "\n")
