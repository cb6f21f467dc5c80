use Rattle.std.proofs.Common.{◌≡◌, List, ℕ, ap, ap₂, sym, ◌∙◌, codes}
use Rattle.serde_json.specs.Data.{Data, Members, object, put}
use Rattle.serde_json.specs.View.{view, members_view}
use Rattle.serde_json.specs.declared.value.Value.{Object}
use Rattle.serde_json.proofs.Views.{view-Object, members_view-insert_entry}
use Rattle.tpl_json.proofs.Puts.{object_is, object_has}
use Rattle.tpl_verify.proofs.Filling.{form_start}
use Rattle.tpl_verify.proofs.start.start_with.Goals.{in-Some+in_ok-from_str+in_ok-insert, in_default}
use Rattle.tpl_verify.proofs.start.start_with.Goals as goal

pub returns : goal.returns
returns c =
    let inputs = c.in_ok-input_members.field-0 in
    elim c.match-as_object_mut.branch [
      | in-Some+in_ok-from_str+in_ok-insert w ↦
          let old = w.in-Some.members.now.entries in
          let key = w.in_ok-from_str.field-0 in
          let members : members_view w.insert.new.self.entries ≡ put (codes "inputs") (object (members_view inputs.entries)) (members_view old) =
          ap members_view w.in_ok-insert.ensures.entries ∙ members_view-insert_entry old key (Object inputs)
          ∙ ap₂ (λ (k : List ℕ) (d : Data). put k d (members_view old)) w.in_ok-from_str.ensures.ok (view-Object inputs) in
          record {
            members = members_view old;
            old_is = sym c.in_ok-start.ensures ∙ object_is (view c.in_ok-start.start) (members_view old) (sym w.in-Some.ensures.value);
            inputs = members_view inputs.entries;
            all = c.in_ok-input_members.ensures;
            new_is = ap view w.start-is ∙ view-Object w.insert.new.self ∙ ap (λ (ms : Members). object ms) members;
          }
      | in_default w ↦
          let form = form_start (view c.args.document.now) c.requires in
          absurd (object_has (view c.in_ok-start.start) form.0 (c.in_ok-start.ensures ∙ form.1) (sym w.in_default.ensures.value))
    ]
