use Rattle.std.proofs.Common.{◌||◌, ap, ◌∙◌, Some}
use Rattle.std.specs.Option.{option_map}
use Rattle.tpl_model.specs.Facts.{requested_itself}
use Rattle.tpl_draft.specs.Ids.{token_number}
use Rattle.tpl_run.specs.Rows.{is_it}
use Rattle.tpl_fast.proofs.TokenLemmas.{asked_also}
use Rattle.tpl_fast.proofs.tokens.Asked.request.Goals as goal

pub returns-in-Some : goal.returns-in-Some
returns-in-Some c = λ v h later a more.
    asked_also c.args.graph.now.graph v h later c.args.self.now.itself _ c.args.self.now.closed c.close-self.result (Some c.in-Some.token.0) c.valid_law.ensures.graph a
    (λ k. more k ∙ ap (λ o. is_it (option_map token_number o) k || requested_itself c.args.graph.now.graph v h k) c.in-Some.is)
    c.mark.ensures.marks c.mark.ensures.count (c.close-self.ensures v later)
