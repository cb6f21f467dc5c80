use Rattle.std.proofs.lemmas.Str.Pattern.{split_parts}
use Rattle.tpl_journal.proofs.CutLemmas.{cut_found}
use Rattle.tpl_journal.proofs.cut.cut.Goals as goal

pub returns : goal.returns
returns c = cut_found c.args.at c.args.text.now c.split_once.result (split_parts c.args.at c.args.text.now c.split_once.result c.split_once.ensures.cases c.requires)
