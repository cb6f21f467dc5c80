use Rattle.tpl_each.proofs.Breaks.{break_found}
use Rattle.tpl_each.proofs.ahead.break_in.Goals as goal

pub returns : goal.returns
returns c = break_found c.args.bytes.now c.memchr.result c.memchr.ensures
