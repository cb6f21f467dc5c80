use Rattle.std.proofs.Common.{subst}
use Rattle.tpl_verify.specs.declared.verdict.Empty.{Empty}
use Rattle.tpl_verify.specs.Verdicts.{IsEmpty}
use Rattle.tpl_verdicts.proofs.ReasonLemmas.{begun_task, ended_task, endless_task}
use Rattle.tpl_verdicts.proofs.reason.why_line.Goals as goal

pub name_of-name-requires : goal.name_of-name-requires
name_of-name-requires c =
    let g = c.args.graph.now.graph in
    let empty = subst (λ (why : Empty). IsEmpty g c.args.claim.now why) c.in-NeverBegins.is c.requires.empty in
    begun_task g c.args.claim.now c.in-NeverBegins.task.0 c.requires.fits empty.0

pub name_of-name-requires-in-NeverEndsSo : goal.name_of-name-requires-in-NeverEndsSo
name_of-name-requires-in-NeverEndsSo c =
    let g = c.args.graph.now.graph in
    let empty = subst (λ (why : Empty). IsEmpty g c.args.claim.now why) c.in-NeverEndsSo.is c.requires.empty in
    ended_task g c.args.claim.now c.in-NeverEndsSo.task.0 c.requires.fits empty.0

pub name_of-name-requires-in-NeverEnds : goal.name_of-name-requires-in-NeverEnds
name_of-name-requires-in-NeverEnds c =
    let g = c.args.graph.now.graph in
    let empty = subst (λ (why : Empty). IsEmpty g c.args.claim.now why) c.in-NeverEnds.is c.requires.empty in
    endless_task g c.args.claim.now c.in-NeverEnds.task c.requires.fits empty.0
