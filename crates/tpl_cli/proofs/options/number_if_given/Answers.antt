use Rattle.clap.specs.Words.{found_of, rows_of}
use Rattle.tpl_cli.proofs.GivenOptions.{no_number, some_number, wrong_number}
use Rattle.tpl_cli.proofs.options.number_if_given.Goals as goal

pub returns-in-None : goal.returns-in-None
returns-in-None c = no_number (found_of c.args.given.now) c.args.option c.name.result.now c.name.ensures c.in-None.ensures

pub returns-in-None-number_in : goal.returns-in-None-number_in
returns-in-None-number_in c number is =
    wrong_number c.args.option (rows_of (found_of c.args.given.now)) number
    (some_number (found_of c.args.given.now) c.args.option c.name.result.now c.in-Some.field-0.now c.name.ensures c.in-Some.ensures)
    c.in-None-number_in.ensures is
