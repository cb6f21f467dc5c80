-- What a set of ids is as a list.
use Rattle.std.specs.Prelude.{◌≡◌, ℕ, List}
use Rattle.tpl_model.specs.declared.limits.TheConstants.{MOST_TASKS, MOST_TOKENS}
use Rattle.tpl_model.specs.Members.{mem}
use Rattle.tpl_model.specs.TaskSet.{passing_from}
use Rattle.tpl_model.specs.Certificate.{PlainRow, Row}

-- the numbers among these, of those below the most, in ascending order and none twice
abbrev pub as_set : ℕ → List ℕ → List ℕ
as_set most ns = passing_from (λ x. mem x ns) 0 most

-- the list is a set of ids: they ascend, none is there twice, and each is below the most
unfoldable pub IsSet : ℕ → List ℕ → Type 0
IsSet most ids = as_set most ids ≡ ids

-- what stands before and past is a set of tasks
abbrev pub HasTaskSets : PlainRow → Type 0
HasTaskSets r = IsSet MOST_TASKS r.before × IsSet MOST_TASKS r.past

-- the tokens are sets
abbrev pub HasTokenSets : Row → Type 0
HasTokenSets r = IsSet MOST_TOKENS r.asked × IsSet MOST_TOKENS r.asks
