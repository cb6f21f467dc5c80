use Rattle.std.proofs.Common.{refl}
use Rattle.tpl_json.specs.View.{view}
use Rattle.tpl_cert.proofs.PlainTrees.{nothing_named}
use Rattle.tpl_cert.proofs.read.tokens_in.Goals as goal

pub returns-in-WithoutTokens : goal.returns-in-WithoutTokens
returns-in-WithoutTokens c = rw (nothing_named c.args.name.now (view c.args.value.now) (c.requires c.in-WithoutTokens.is), c.new.ensures.items) refl
