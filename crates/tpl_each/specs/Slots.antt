-- A line beside its answer.
use Rattle.std.specs.Prelude.{ℕ, List, Option, Some, None, codes, string_bytes}
use Rattle.tpl_commands.specs.declared.answer.Answer.{Answer}
use Rattle.tpl_commands.specs.declared.exit.Exit.TheVariants.{Memory}
use Rattle.tpl_commands.specs.Responding.{Answers, Says}
use Rattle.tpl_each.specs.declared.line.Line.{Line}
use Rattle.tpl_each.specs.declared.slot.Slot.{Slot}
use Rattle.tpl_each.specs.Kept.{IsKept}
use Rattle.tpl_each.specs.Said.{Said}

-- what is said with this answer; that memory ran out, where there is none
abbrev pub said_with : Option Answer → Said
said_with (Some answer) = record { exit = answer.exit; text = string_bytes answer.text }
said_with None = record { exit = Memory; text = codes "out of memory\n" }

-- what is said to the line of a slot
abbrev pub said_of : Slot → Said
said_of slot = said_with slot.answer

-- whatever the bytes of the line are, this is what the command says to them
abbrev pub IsSaidTo : Answers → Line → Said → Type 0
IsSaidTo answers line said = (input : List ℕ) → IsKept input line → Says answers input said.exit said.text
