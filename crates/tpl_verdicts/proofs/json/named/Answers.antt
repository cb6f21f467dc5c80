use Rattle.std.proofs.Common.{◌≡◌, List, ℕ, ap, ap₂, sym, ◌∙◌, string_bytes, codes, rules}
use Rattle.serde_json.specs.Data.{Data, Members, object, string, put}
use Rattle.serde_json.specs.View.{view, members_view}
use Rattle.serde_json.specs.declared.value.Value.{String, the_lemmas}
use Rattle.serde_json.proofs.Views.{view-Object, members_view-insert_entry}
use Rattle.tpl_json.proofs.Puts.{object_has, object_is}
use Rattle.tpl_verdicts.proofs.json.named.Goals.{in-Some+in_ok-key+in_ok-from_str+in_ok-insert, in_default}
use Rattle.tpl_verdicts.proofs.json.named.Goals as goal

pub returns : goal.returns
returns c =
    elim c.match-as_object_mut.branch [
      | in-Some+in_ok-key+in_ok-from_str+in_ok-insert w ↦
          let old = w.in-Some.members.now.entries in
          let name : view (String w.in_ok-from_str.field-0) ≡ string (string_bytes w.in_ok-from_str.field-0) = search (rules, the_lemmas) in
          let all : members_view w.insert.new.self.entries ≡ put (codes "name") (string c.args.name.now) (members_view old) =
          ap members_view w.in_ok-insert.ensures.entries ∙ members_view-insert_entry old w.in_ok-key.key (String w.in_ok-from_str.field-0)
          ∙ ap₂ (λ (k : List ℕ) (d : Data). put k d (members_view old)) w.in_ok-key.ensures.ok (name ∙ ap string w.in_ok-from_str.ensures.ok) in
          (members_view old, object_is (view c.args.value) (members_view old) (sym w.in-Some.ensures.value), ap view w.value-is ∙ view-Object w.insert.new.self ∙ ap (λ (ms : Members). object ms) all)
      | in_default w ↦ absurd (object_has (view c.args.value) c.requires.0 c.requires.1 (sym w.in_default.ensures.value))
    ]
