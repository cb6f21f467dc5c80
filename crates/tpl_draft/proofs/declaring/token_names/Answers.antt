use Rattle.tpl_draft.specs.Draft.{Token}
use Rattle.tpl_draft.specs.SeenTasks.{token_of}
use Rattle.tpl_draft.proofs.NamesLemmas.{all_named}
use Rattle.tpl_draft.proofs.declaring.token_names.Goals as goal

pub returns : goal.returns
returns c = all_named token_of (λ (x : Token). x.name) _ _ _ c.loop-token-test.false c.loop-token.invariant
