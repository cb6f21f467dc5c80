-- The option words, and what they exclude.
use Rattle.std.specs.Prelude.{ℕ, ◌+◌, Bool, not, ◌&&◌, ◌==◌, List, [], ◌∷◌, codes, Result, Ok, Err, if◌then◌else◌}
use Rattle.std.specs.Int.RustNames.{bit_and}
use Rattle.tpl_model.specs.declared.finals.Final.{Final}
use Rattle.tpl_model.specs.declared.finals.Final.TheVariants.{RanToCompletion, Canceled, Faulted}
use Rattle.tpl_model.specs.declared.options.OptionFault.{OptionFault}
use Rattle.tpl_model.specs.declared.options.OptionFault.TheVariants.{ExcludesAll, LongAndSync}

-- the bit of each option word that has one
abbrev pub prefer_fairness_bit : ℕ
prefer_fairness_bit = 1

abbrev pub long_running_bit : ℕ
long_running_bit = 2

abbrev pub attached_to_parent_bit : ℕ
attached_to_parent_bit = 4

abbrev pub deny_child_attach_bit : ℕ
deny_child_attach_bit = 8

abbrev pub hide_scheduler_bit : ℕ
hide_scheduler_bit = 16

abbrev pub lazy_cancellation_bit : ℕ
lazy_cancellation_bit = 32

abbrev pub asynchronously_bit : ℕ
asynchronously_bit = 64

abbrev pub synchronously_bit : ℕ
synchronously_bit = 0x80000

-- the bit that excludes a final status
abbrev pub not_on : Final → ℕ
not_on RanToCompletion = 0x10000
not_on Faulted = 0x20000
not_on Canceled = 0x40000

-- each word and its value
abbrev pub words : List (List ℕ × ℕ)
words =
    (codes "None", 0)
    ∷ (codes "PreferFairness", prefer_fairness_bit)
    ∷ (codes "LongRunning", long_running_bit)
    ∷ (codes "AttachedToParent", attached_to_parent_bit)
    ∷ (codes "DenyChildAttach", deny_child_attach_bit)
    ∷ (codes "HideScheduler", hide_scheduler_bit)
    ∷ (codes "LazyCancellation", lazy_cancellation_bit)
    ∷ (codes "RunContinuationsAsynchronously", asynchronously_bit)
    ∷ (codes "NotOnRanToCompletion", not_on RanToCompletion)
    ∷ (codes "NotOnFaulted", not_on Faulted)
    ∷ (codes "NotOnCanceled", not_on Canceled)
    ∷ (codes "OnlyOnCanceled", not_on RanToCompletion + not_on Faulted)
    ∷ (codes "OnlyOnFaulted", not_on RanToCompletion + not_on Canceled)
    ∷ (codes "OnlyOnRanToCompletion", not_on Faulted + not_on Canceled)
    ∷ (codes "ExecuteSynchronously", synchronously_bit)
    ∷ []

-- the words that roots and children take (TaskCreationOptions)
abbrev pub task_words : ℕ
task_words =
    prefer_fairness_bit + long_running_bit + attached_to_parent_bit + deny_child_attach_bit + hide_scheduler_bit
    + asynchronously_bit

-- the words that continuations take (TaskContinuationOptions)
abbrev pub continuation_words : ℕ
continuation_words =
    task_words + lazy_cancellation_bit + not_on RanToCompletion + not_on Faulted + not_on Canceled + synchronously_bit

-- the options have all of these bits
abbrev pub has_bits : ℕ → ℕ → Bool
has_bits options bits = bit_and options bits == bits

-- a continuation with these options may start after its antecedent ended in this way: the NotOn bit of the way isn't
-- set
abbrev pub allows : ℕ → Final → Bool
allows options f = not (has_bits options (not_on f))

-- the options exclude all three ways to end
abbrev pub excludes_all : ℕ → Bool
excludes_all options = not (allows options RanToCompletion) && not (allows options Canceled) && not (allows options Faulted)

-- the options have LongRunning and ExecuteSynchronously
abbrev pub long_and_sync : ℕ → Bool
long_and_sync options = has_bits options long_running_bit && has_bits options synchronously_bit

-- the first thing that is wrong with the options
abbrev pub validity : ℕ → Result (Unit {0}) OptionFault
validity options =
    if excludes_all options then Err ExcludesAll
    else if long_and_sync options then Err LongAndSync
    else Ok tt

-- the options have AttachedToParent
abbrev pub attached_to_parent : ℕ → Bool
attached_to_parent options = has_bits options attached_to_parent_bit

-- the options have DenyChildAttach
abbrev pub deny_child_attach : ℕ → Bool
deny_child_attach options = has_bits options deny_child_attach_bit

-- the options have LazyCancellation
abbrev pub lazy_cancellation : ℕ → Bool
lazy_cancellation options = has_bits options lazy_cancellation_bit

-- the options have RunContinuationsAsynchronously
abbrev pub run_continuations_asynchronously : ℕ → Bool
run_continuations_asynchronously options = has_bits options asynchronously_bit

-- the options have ExecuteSynchronously
abbrev pub execute_synchronously : ℕ → Bool
execute_synchronously options = has_bits options synchronously_bit
