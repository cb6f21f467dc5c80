use Rattle.std.proofs.Common.{ap, ◌∙◌, map}
use Rattle.std.specs.Prelude.{string_bytes}
use Rattle.tpl_draft.specs.Draft.{Token}
use Rattle.tpl_draft.specs.SeenTasks.{draft_of, token_of}
use Rattle.tpl_draft.proofs.DeclareLemmas.{tokens_twice}
use Rattle.tpl_draft.proofs.declaring.declare_tokens.Goals as goal

pub returns-in-Err-Twice-clause-fault : goal.returns-in-Err-Twice-clause-fault
returns-in-Err-Twice-clause-fault c =
    rw c.twice_at.ensures (tokens_twice (draft_of c.args.draft.now) (map string_bytes c.deref-2.result.now)
    (ap (map string_bytes) c.deref-2.ensures.value ∙ (c.in_ok-list.ensures ∙ ap (λ l. map (λ (k : Token). k.name) (map token_of l)) c.deref.ensures.value))
    (rw c.in-Err-Twice.field-0-is at c.in-Err-Twice.ensures.twice) c.requires)
