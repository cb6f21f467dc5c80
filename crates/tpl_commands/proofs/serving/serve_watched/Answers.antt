use Rattle.tpl_commands.proofs.Accepting.{serves}
use Rattle.tpl_commands.proofs.serving.serve_watched.Goals as goal

pub returns : goal.returns
returns g c =
    serves c.args.ask g.R.Read.remaining c.args.from.now c.respond.new.from g.W.Write.contents c.args.to.now c.respond.new.to c.respond.result c.respond.ensures.responds c.respond.ensures.reads
