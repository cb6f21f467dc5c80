use Rattle.tpl_draft.specs.Draft.{Token}
use Rattle.tpl_draft.specs.Numbered.{token_in}
use Rattle.tpl_draft.specs.SeenTasks.{token_of}
use Rattle.tpl_draft.proofs.NamesLemmas.{all_named}
use Rattle.tpl_graph.proofs.rows.origins.Goals as goal

pub returns : goal.returns
returns c = all_named token_of (λ (k : Token). token_in c.args.names.now k.linked) _ _ _ c.loop-token-test.false c.loop-token.invariant.made
