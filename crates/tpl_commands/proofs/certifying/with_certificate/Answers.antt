use Rattle.std.proofs.Common.{ap, ◌∙◌}
use Rattle.serde_json.specs.Data.{object, put}
use Rattle.serde_json.specs.View.{members_view, view}
use Rattle.serde_json.proofs.Views.{members_view-insert_entry, view-Object}
use Rattle.tpl_commands.proofs.certifying.with_certificate.Goals as goal

pub returns : goal.returns
returns c =
    let old = c.in-Object.members in
    let new = c.insert.new.self in
    let members = ap members_view c.in_ok-insert-in-Object.ensures.entries
    ∙ (members_view-insert_entry old.entries c.in_ok-name-in-Object.name c.args.certificate
    ∙ ap (λ k. put k (view c.args.certificate) (members_view old.entries)) c.in_ok-name-in-Object.ensures.ok) in
    (members_view old.entries, ap view c.in-Object.is ∙ view-Object old, view-Object new ∙ ap object members)
