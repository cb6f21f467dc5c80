-- The options for numbers.
use Rattle.std.specs.Prelude.{ℕ, List, [], ◌∷◌, codes, decimal}
use Rattle.clap.specs.Words.{Text}
use Rattle.tpl_each.specs.declared.slot.TheConstants.{MOST_JOBS}
use Rattle.tpl_model.specs.declared.limits.TheConstants.{MOST_SPLITS, MOST_WORKERS}
use Rattle.tpl_parts.specs.declared.version.Version.TheVariants.{Three}
use Rattle.tpl_reader.specs.Asked.{most_claims}
use Rattle.tpl_cli.specs.declared.number.Number.{Number}
use Rattle.tpl_cli.specs.declared.number.TheConstants.{MOST_RUNS}
use Rattle.tpl_cli.specs.declared.number.Number.TheVariants.{Depth, Workers, Claim, Runs, Seed, Jobs}

-- the name of the option
abbrev pub number_name : Number → Text
number_name Depth = codes "depth"
number_name Workers = codes "workers"
number_name Claim = codes "claim"
number_name Runs = codes "runs"
number_name Seed = codes "seed"
number_name Jobs = codes "jobs"

-- the last seed: a number of 32 bits
abbrev pub last_seed : ℕ
last_seed = 4294967295

-- the least number that it may be, and the most
abbrev pub number_range : Number → ℕ × ℕ
number_range Depth = (0, MOST_SPLITS)
number_range Workers = (1, MOST_WORKERS)
number_range Claim = (1, most_claims Three)
number_range Runs = (0, MOST_RUNS)
number_range Seed = (0, last_seed)
number_range Jobs = (1, MOST_JOBS)

-- what stands for the number where it is left out, if anything does
abbrev pub usual : Number → List Text
usual Depth = codes "2" ∷ []
usual Workers = codes "4" ∷ []
usual Claim = []
usual Runs = codes "100000" ∷ []
usual Seed = codes "0" ∷ []
usual Jobs = []

-- the greatest depth, which stands for one that is left out in a search for verdicts
abbrev pub deepest : Text
deepest = decimal MOST_SPLITS
