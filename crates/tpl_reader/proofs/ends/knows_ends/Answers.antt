use Rattle.std.proofs.Common.{Some, option_map, sym, ap, ◌∙◌}
use Rattle.json.proofs.Trees.{view-Object}
use Rattle.tpl_cert.specs.Naming.{is_declared}
use Rattle.tpl_json.specs.View.{data_of, view}
use Rattle.tpl_json.proofs.DataOf.{names_are}
use Rattle.tpl_reader.specs.Begin.{knows_members}
use Rattle.tpl_reader.proofs.ends.knows_ends.Goals as goal

pub returns-in-Object : goal.returns-in-Object
unfolding knows_members
returns-in-Object c =
    let names = c.args.graph.now.names.tasks in
    rw (c.declares.ensures, c.as_slice.ensures.value) (sym (names_are (is_declared names) c.in-Object.members.items)
    ∙ ap (λ j. knows_members names (Some (data_of j))) (sym (view-Object c.in-Object.members))
    ∙ ap (λ v. knows_members names (Some (view v))) (sym c.in-Object.is)
    ∙ ap (λ o. knows_members names (option_map (λ v. view v.now) o)) (sym c.in-Some.is))
