-- How the program ends.
use Rattle.std.specs.Prelude.{ℕ, Bool, true, false}
use Rattle.tpl_commands.specs.declared.exit.Exit.{Exit}
use Rattle.tpl_commands.specs.declared.exit.Exit.TheVariants.{Success, Failure, Usage, Unreadable, Memory, Device, Fault}

-- the exit status of the process
abbrev pub exit_code : Exit → ℕ
exit_code Success = 0
exit_code Failure = 1
exit_code Usage = 2
exit_code Unreadable = 3
exit_code Memory = 4
exit_code Device = 5
exit_code Fault = 5

-- a document was answered, whatever the answer was
abbrev pub is_verdict : Exit → Bool
is_verdict Success = true
is_verdict Failure = true
is_verdict Usage = false
is_verdict Unreadable = true
is_verdict Memory = false
is_verdict Device = false
is_verdict Fault = false
