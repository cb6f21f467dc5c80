use Rattle.clap.specs.Words.{found_of}
use Rattle.tpl_cli.proofs.GivenOptions.{named_given, none_named}
use Rattle.tpl_cli.proofs.options.named_in.Goals as goal

pub returns-in-Some : goal.returns-in-Some
returns-in-Some g c =
    named_given g.T.FromWord.word (found_of c.args.given.now) c.in-Some.word.now c.from_word.result c.in-Some.ensures c.from_word.ensures

pub returns-in-None : goal.returns-in-None
returns-in-None g c thing is = none_named g.T.FromWord.word (found_of c.args.given.now) thing c.in-None.ensures is
