-- Claims, and the values of inputs, in words.
use Rattle.std.specs.Prelude.{ℕ, suc, ◌&&◌, ◌==◌, Bool, true, false, not, List, [], ◌∷◌, ◌++◌, codes, count_by, filter, flat_map, length, map, nat_lt, if◌then◌else◌}
use Rattle.tpl_model.specs.declared.claim.Given.{Given}
use Rattle.tpl_model.specs.declared.claim.Given.TheVariants.{Input, Quiet, Ended, Succeeds}
use Rattle.tpl_model.specs.declared.claim.Property.{Property}
use Rattle.tpl_model.specs.declared.claim.Property.TheVariants.{Final as EndsIn, After, Observed, Never, Excludes, Runs}
use Rattle.tpl_model.specs.declared.finals.Final.TheVariants.{RanToCompletion, Canceled, Faulted}
use Rattle.tpl_model.specs.declared.finals.Finals.{Finals}
use Rattle.tpl_model.specs.declared.ids.InputId.{InputId}
use Rattle.tpl_model.specs.declared.ids.TaskId.{TaskId}
use Rattle.tpl_model.specs.Claims.{Claim}
use Rattle.tpl_model.specs.Finals.{final_name, has}
use Rattle.tpl_draft.specs.Named.{Names}
use Rattle.tpl_causes.specs.declared.naming.Named.TheVariants.{Task, Token, Site, Input as InputOf}
use Rattle.tpl_causes.specs.Naming.{named_text}

-- words with this text between each two
abbrev pub listed : List ℕ → List (List ℕ) → List ℕ
listed between [] = []
listed between (word ∷ words) = word ++ flat_map (λ more. between ++ more) words

-- the text, or `nothing` where it is empty
abbrev pub or_nothing : List ℕ → List ℕ
or_nothing [] = codes "nothing"
or_nothing (x ∷ xs) = x ∷ xs

-- the ends of a set
abbrev pub ends_words : Finals → List ℕ
ends_words ends = or_nothing (listed (codes " or ") (map final_name (filter (has ends) (RanToCompletion ∷ Canceled ∷ Faulted ∷ []))))

-- whether something is so
abbrev pub bool_word : Bool → List ℕ
bool_word b = if b then codes "true" else codes "false"

-- what a property says of a run
abbrev pub property_words : Names → Property TaskId → List ℕ
property_words names (EndsIn t ends) = named_text names (Task t) ++ (codes " ends " ++ ends_words ends)
property_words names (After a b) = named_text names (Task b) ++ (codes " begins only after " ++ (named_text names (Task a) ++ codes " is settled"))
property_words names (Observed t) = codes "the exception of " ++ (named_text names (Task t) ++ codes " is observed")
property_words names (Never t) = named_text names (Task t) ++ codes " never begins"
property_words names (Excludes a b) = named_text names (Task a) ++ (codes " and " ++ (named_text names (Task b) ++ codes " don't both begin"))
property_words names (Runs t) = named_text names (Task t) ++ codes " begins in each complete run"

-- one thing that is given
abbrev pub given_word : Names → Given → List ℕ
given_word names (Input i value) = named_text names (InputOf i) ++ (codes " is " ++ bool_word value)
given_word names (Quiet k) = named_text names (Token k) ++ codes " is never requested"
given_word names (Ended t ends) = named_text names (Task t) ++ (codes " ends " ++ (ends_words ends ++ codes " or not at all"))
given_word names (Succeeds s) = codes "the job " ++ (named_text names (Site s) ++ codes " doesn't fail")

-- it is given that a job doesn't fail
abbrev pub is_of_job : Given → Bool
is_of_job (Succeeds s) = true
is_of_job one = false

-- it is given of each of several jobs that it doesn't fail
abbrev pub are_all_jobs : Names → List Given → Bool
are_all_jobs names given = nat_lt 1 (count_by is_of_job given) && (count_by is_of_job given == length names.sites)

-- what is given; that no job fails is said at the end
abbrev pub given_words : Names → List Given → List ℕ
given_words names given =
    if are_all_jobs names given
    then listed (codes " and ") (map (given_word names) (filter (λ one. not (is_of_job one)) given) ++ codes "no job fails" ∷ [])
    else listed (codes " and ") (map (given_word names) given)

-- a claim: what its property says, and where something is given, what
abbrev pub claim_words : Names → Claim → List ℕ
claim_words names claim = elim claim.given [
  | [] ↦ property_words names claim.body
  | one ∷ more ↦ property_words names claim.body ++ (codes ", where " ++ given_words names claim.given)
]

-- that inputs have these values, from this number on
abbrev pub inputs_given : ℕ → List Bool → List Given
inputs_given n [] = []
inputs_given n (value ∷ values) = Input (record { 0 = n }) value ∷ inputs_given (suc n) values

-- the values of the inputs
abbrev pub input_words : Names → List Bool → List ℕ
input_words names values = listed (codes " and ") (map (given_word names) (inputs_given 0 values))
