use Rattle.std.proofs.Common.{subst, sym, List}
use Rattle.std.specs.List.{All}
use Rattle.tpl_draft.specs.Ids.{token_number}
use Rattle.tpl_model.specs.Graph.{is_token}
use Rattle.tpl_model.specs.declared.ids.TokenId.{TokenId}
use Rattle.tpl_report.proofs.RunLemmas.{all_mapped}
use Rattle.tpl_report.proofs.running.requests.Goals as goal

pub returns-in-Some-clause-tokens : goal.returns-in-Some-clause-tokens
returns-in-Some-clause-tokens c =
    let g = c.args.document.now.graph.graph in
    let all = all_mapped token_number (is_token g) c.in-Some.start.request.items (rw c.in-Some.is at c.requires) in
    subst (λ (tokens : List TokenId). All (λ (k : TokenId). is_token g k.0) tokens) (sym c.as_slice.ensures.value) all
