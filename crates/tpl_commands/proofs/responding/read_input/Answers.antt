use Rattle.std.proofs.Common.{refl, ap, Err, inl, inr, codes}
use Rattle.tpl_journal.specs.Counting.{remaining_of}
use Rattle.tpl_reader.specs.Document.{longest}
use Rattle.tpl_commands.specs.declared.exit.Exit.TheVariants.{Unreadable, Memory}
use Rattle.tpl_commands.proofs.Inputs.{any_input, long_input}
use Rattle.tpl_commands.proofs.responding.read_input.Goals as goal

pub returns-in-Err-TooLong-clause-err : goal.returns-in-Err-TooLong-clause-err
returns-in-Err-TooLong-clause-err g c =
    let long = long_input longest (remaining_of g.R.Read.remaining c.args.from.now) (c.in-Err-TooLong.ensures.too_long (ap Err c.in-Err-TooLong.field-0-is)) in
    inl (long.0, Unreadable, codes "unreadable: too long\n", record { known = long.1; failures = rw c.in-Err-TooLong.field-0-is at c.in-Err-TooLong.ensures.failures }, inr (long.2, refl), c.put.ensures)

pub returns-in-Err-Memory-clause-err : goal.returns-in-Err-Memory-clause-err
returns-in-Err-Memory-clause-err g c =
    let any = any_input (remaining_of g.R.Read.remaining c.args.from.now) in
    inl (any.0, Memory, codes "out of memory\n", record { known = any.1; failures = rw c.in-Err-Memory.field-0-is at c.in-Err-Memory.ensures.failures }, refl, c.put_out_of_memory.ensures)
