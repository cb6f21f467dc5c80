use Rattle.std.proofs.Common.{◌++◌, map, sym, ap, ◌∙◌}
use Rattle.json.proofs.Trees.{view-Object}
use Rattle.tpl_json.specs.Members.{has_only, is_one_of}
use Rattle.tpl_json.specs.View.{data_of, view}
use Rattle.tpl_json.proofs.DataOf.{names_are}
use Rattle.tpl_parts.proofs.remarks.has_only_beside.Goals as goal

pub returns-in-Object : goal.returns-in-Object
unfolding has_only
returns-in-Object c =
    let names = map (λ s. s.now) c.args.names.now ++ map (λ s. s.now) c.args.more.now in
    rw (c.members_within.ensures, c.as_slice.ensures.value) (sym (names_are (is_one_of names) c.in-Object.members.items)
    ∙ ap (λ j. has_only names (data_of j)) (sym (view-Object c.in-Object.members)) ∙ ap (λ v. has_only names (view v)) (sym c.in-Object.is))
