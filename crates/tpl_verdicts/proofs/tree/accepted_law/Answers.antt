use Rattle.std.proofs.Common.{◌∷◌, []}
use Rattle.tpl_commands.proofs.WrittenTrees.{plain_without_tokens, trees_known}
use Rattle.tpl_verdicts.proofs.TreeLemmas.{one_tree}
use Rattle.tpl_verdicts.proofs.tree.accepted_law.Goals as goal

pub returns-clause-ids : goal.returns-clause-ids
returns-clause-ids c =
    trees_known c.tokens_accept_more.ensures c.args.graph.now c.valid_law.ensures c.args.rules (c.args.claim.now ∷ []) c.args.certificate.now c.requires.accepted

pub returns-clause-plain : goal.returns-clause-plain
returns-clause-plain c narrow =
    plain_without_tokens c.args.rules c.args.graph.now.graph (c.args.claim.now ∷ []) c.args.certificate.now c.requires.accepted narrow

pub returns-clause-one : goal.returns-clause-one
returns-clause-one c = one_tree c.args.certificate.now c.args.splits c.requires.splits
