use Rattle.std.proofs.Common.{None, arith}
use Rattle.clap.specs.Words.{found_of}
use Rattle.tpl_cli.proofs.GivenOptions.{number_read, given_read, within}
use Rattle.tpl_cli.proofs.options.number_in.Goals as goal

pub returns-in-Some : goal.returns-in-Some
returns-in-Some c =
    number_read (found_of c.args.given.now) c.args.option c.name.result.now c.name.ensures c.in-Some.number (omega arith) (omega arith) c.in-Some.ensures.none c.in-Some.ensures.value

pub returns-in_default : goal.returns-in_default
returns-in_default c n is =
    let lies = within (found_of c.args.given.now) c.args.option c.name.result.now c.name.ensures n c.in-Some.number is c.in-Some.ensures.value in
    absurd (omega (arith, lies.1, c.if-number-most.false))

pub returns-in_default-2 : goal.returns-in_default-2
returns-in_default-2 c n is =
    let lies = within (found_of c.args.given.now) c.args.option c.name.result.now c.name.ensures n c.in-Some.number is c.in-Some.ensures.value in
    absurd (omega (arith, lies.0, c.if-least-number.false))

pub returns-in_default-3 : goal.returns-in_default-3
returns-in_default-3 c n is =
    let read = given_read (found_of c.args.given.now) c.args.option c.name.result.now c.name.ensures n None is c.in_default.ensures.value in
    absurd cc
