use Rattle.std.proofs.Common.{◌≡◌, List, ℕ, ap, ap₂, sym, ◌∙◌, string_bytes, codes, rules}
use Rattle.serde_json.specs.Data.{Data, Members, object, string, put}
use Rattle.serde_json.specs.View.{view, members_view}
use Rattle.serde_json.specs.declared.value.Value.{String, the_lemmas}
use Rattle.serde_json.proofs.Views.{view-Object, members_view-insert_entry}
use Rattle.tpl_json.proofs.Puts.{object_is, object_has}
use Rattle.tpl_verify.proofs.Filling.{form_object}
use Rattle.tpl_verify.proofs.text.filled.Goals.{in-Some+in_ok-from_str+in_ok-insert+in_ok-from_str-2+in_ok-insert-2, in_default}
use Rattle.tpl_verify.proofs.text.filled.Goals as goal

pub returns : goal.returns
returns c =
    elim c.match-as_object_mut.branch [
      | in-Some+in_ok-from_str+in_ok-insert+in_ok-from_str-2+in_ok-insert-2 w ↦
          let old = w.in-Some.members.now.entries in
          let journal : view (String c.args.journal) ≡ string (string_bytes c.args.journal) = search (rules, the_lemmas) in
          let first : members_view w.insert.new.self.entries ≡ put (codes "start") (view c.args.start) (members_view old) =
          ap members_view w.in_ok-insert.ensures.entries ∙ members_view-insert_entry old w.in_ok-from_str.field-0 c.args.start
          ∙ ap (λ (k : List ℕ). put k (view c.args.start) (members_view old)) w.in_ok-from_str.ensures.ok in
          let both : members_view w.insert-in-Some.new.self.entries ≡ put (codes "journal") (string (string_bytes c.args.journal)) (put (codes "start") (view c.args.start) (members_view old)) =
          ap members_view w.in_ok-insert-2.ensures.entries ∙ members_view-insert_entry w.insert.new.self.entries w.in_ok-from_str-2.field-0 (String c.args.journal)
          ∙ ap₂ (λ (k : List ℕ) (d : Data). put k d (members_view w.insert.new.self.entries)) w.in_ok-from_str-2.ensures.ok journal
          ∙ ap (λ (ms : Members). put (codes "journal") (string (string_bytes c.args.journal)) ms) first in
          record {
            members = members_view old;
            old_is = object_is (view c.args.document) (members_view old) (sym w.in-Some.ensures.value);
            new_is = ap view w.document-is ∙ view-Object w.insert-in-Some.new.self ∙ ap (λ (ms : Members). object ms) both;
          }
      | in_default w ↦
          let form = form_object (view c.args.document) c.requires in
          absurd (object_has (view c.args.document) form.0 form.1 (sym w.in_default.ensures.value))
    ]
