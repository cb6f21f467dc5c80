use Rattle.std.proofs.Common.{◌≡◌, ℕ, List, [], false, ap, ap₂, sym, ◌∙◌, rules, string_bytes, arith}
use Rattle.std.specs.Prelude.{slice_index_or}
use Rattle.std.proofs.lemmas.Option.{get_or_from_slice_get}
use Rattle.serde_json.specs.Data.{Data, boolean, put}
use Rattle.serde_json.specs.View.{view, members_view}
use Rattle.serde_json.specs.declared.value.Value.{Bool, the_lemmas}
use Rattle.serde_json.proofs.Views.{members_view-insert_entry}
use Rattle.tpl_cert.specs.Written.{name_at}
use Rattle.tpl_verify.proofs.Truths.{one_more}
use Rattle.tpl_verify.proofs.start.input_members.Goals as goal

pub loop-number-preserved : goal.loop-number-preserved
loop-number-preserved c =
    let names = c.args.graph.now.names.inputs in
    let count = c.loop-number.number in
    let old = members_view c.loop-number.members.entries in
    let same = c.valid_law.ensures.inputs in
    let all = c.input_count-number-end.ensures.count in
    let named : string_bytes c.in_ok-name.name ≡ name_at names count =
    c.in_ok-name.ensures.ok ∙ sym (get_or_from_slice_get names count c.input_name.result.now [] c.input_name.ensures) in
    let value : view (Bool c.get.result) ≡ boolean (slice_index_or c.args.inputs.now count false) = search (rules, the_lemmas) ∙ ap boolean c.get.ensures in
    let put_it : members_view c.insert.new.self.entries ≡ put (string_bytes c.in_ok-name.name) (view (Bool c.get.result)) old =
    ap members_view c.in_ok-insert.ensures.entries ∙ members_view-insert_entry c.loop-number.members.entries c.in_ok-name.name (Bool c.get.result) in
    one_more names c.args.inputs.now count old c.valid_law.ensures.inputs_once (let lt = c.loop-number-test.true in omega arith) c.loop-number.invariant (members_view c.insert.new.self.entries)
    (put_it ∙ ap₂ (λ (k : List ℕ) (d : Data). put k d old) named value)
