use Rattle.std.proofs.Common.{sym, subst}
use Rattle.tpl_draft.specs.Named.{Named}
use Rattle.tpl_graph.specs.Kept.{IsNamedGraph, AreKept}
use Rattle.tpl_draft.specs.SeenTasks.{draft_of}
use Rattle.tpl_graph.specs.Sites.{AreSites}
use Rattle.tpl_draft.specs.Tables.{seen}
use Rattle.tpl_graph.proofs.KeptLaw.{is_numbered}
use Rattle.tpl_graph.proofs.OwnerLemmas.{are_sites}
use Rattle.tpl_graph.proofs.WholeLaw.{is_named_graph}
use Rattle.tpl_graph.proofs.graph.make.Goals as goal

pub invariant_of-result : goal.invariant_of-result
invariant_of-result c =
    let is = is_numbered (draft_of c.args.draft.now) (seen c.args.checked.names) c.args.checked.tokens.items c.in_ok-kept.kept.tasks.items c.requires.checked.names c.requires.checked.tokens c.in_ok-kept.ensures.tasks in
    subst (λ (n : Named). IsNamedGraph n × AreKept n c.in_ok-kept.kept.parents.items c.in_ok-kept.kept.attached.items c.in_ok-kept.kept.bound × AreSites n.graph c.args.checked.sites.items) (sym is) (
      is_named_graph (draft_of c.args.draft.now) c.requires.valid c.requires.checked.inputs_once c.requires.checked.tokens_once c.requires.checked.tasks_once c.requires.checked.sites_once,
      c.in_ok-kept.ensures.kept,
      are_sites (draft_of c.args.draft.now) c.args.checked.sites.items c.requires.checked.sites,
    )
