use Rattle.std.proofs.Common.{◌≡◌}
use Rattle.std.specs.List.{AllWithin}
use Rattle.tpl_model.specs.declared.ids.TokenId.{TokenId}
use Rattle.tpl_report.specs.Made.{HasAsked}
use Rattle.tpl_report.proofs.requests.request_all.Given as goal

abbrev pub invariant-loop-token : goal.invariant-loop-token
invariant-loop-token g l =
    record {
      pass : l.outsider.pass.queue ≡ l.session.queue;
      actor : l.outsider.seat.actor ≡ l.initial.outsider.seat.actor;
      asked : AllWithin (λ (k : TokenId). HasAsked l.graph.graph l.outsider.seat.mine k.0) l.tokens 0 l.token-index;
    }
