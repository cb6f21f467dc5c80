use Rattle.std.proofs.Common.{◌≡◌, ap, sym, ◌∙◌, codes}
use Rattle.serde_json.specs.Data.{Members, object}
use Rattle.serde_json.specs.View.{view, members_view}
use Rattle.serde_json.specs.Find.{get_member}
use Rattle.serde_json.proofs.Views.{view-Object}
use Rattle.tpl_json.proofs.Puts.{object_is, object_has}
use Rattle.tpl_verify.specs.Filled.{without}
use Rattle.tpl_verify.proofs.Filling.{form_object}
use Rattle.tpl_verify.proofs.Without.{view_without, none_found}
use Rattle.tpl_verify.proofs.text.without_seen.Goals as goal

pub returns-in-Some : goal.returns-in-Some
returns-in-Some c =
    let old = c.in-Some.members.now.entries in
    let unended : members_view c.remove.new.self.entries ≡ without (codes "ended") (members_view old) = ap members_view c.remove.ensures.entries ∙ view_without (codes "ended") old in
    let untimed : members_view c.remove-in-Some.new.self.entries ≡ without (codes "times") (without (codes "ended") (members_view old)) =
    ap members_view c.remove-in-Some.ensures.entries ∙ view_without (codes "times") c.remove.new.self.entries ∙ ap (without (codes "times")) unended in
    record {
      members = members_view old;
      old_is = object_is (view c.args.document) (members_view old) (sym c.in-Some.ensures.value);
      no_ended = ap (get_member (codes "ended")) (sym unended) ∙ none_found (codes "ended") c.remove.new.self.entries c.remove.ensures.updates.1;
      no_times = ap (get_member (codes "times")) (sym untimed) ∙ none_found (codes "times") c.remove-in-Some.new.self.entries c.remove-in-Some.ensures.updates.1;
      new_is = view-Object c.remove-in-Some.new.self ∙ ap (λ (ms : Members). object ms) untimed;
    }

pub returns-in_default : goal.returns-in_default
returns-in_default c =
    let form = form_object (view c.args.document) c.requires in
    absurd (object_has (view c.args.document) form.0 form.1 (sym c.in_default.ensures.value))
