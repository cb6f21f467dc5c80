use Rattle.std.proofs.Common.{ok_or, refl}
use Rattle.std.proofs.lemmas.Result.{err_from_is_err_and}
use Rattle.std.specs.Option.{option_map}
use Rattle.tpl_json.specs.View.{view}
use Rattle.tpl_json.proofs.Passes.{fails_bind}
use Rattle.tpl_json.proofs.Reading.{yields_or}
use Rattle.tpl_parts.specs.Start.{start_or_none}
use Rattle.tpl_parts.specs.SeenStart.{start_of}
use Rattle.tpl_reader.specs.Shape.{spelled_at}
use Rattle.tpl_reader.specs.SeenTop.{members_of}
use Rattle.tpl_reader.specs.Top.{top_at}
use Rattle.tpl_reader.specs.declared.fault.Part.TheVariants.{Top, Start}
use Rattle.tpl_reader.proofs.shape.shape_of.Goals as goal

pub returns-in_err-members : goal.returns-in_err-members
unfolding spelled_at
returns-in_err-members c =
    let p = err_from_is_err_and c.from_residual.result c.from_residual.ensures.1 in
    rw (p.1, p.2) (fails_bind c.in_err-members.field-0.0 (ok_or (top_at (view c.args.value.now)) Top) _ (yields_or members_of c.members_of.result (top_at (view c.args.value.now)) Top _ c.in_err-members.ensures c.members_of.ensures))

pub returns-in_err-tasks : goal.returns-in_err-tasks
unfolding spelled_at
returns-in_err-tasks c =
    let p = err_from_is_err_and c.from_residual-in_err-tasks.result c.from_residual-in_err-tasks.ensures.1 in
    let members = yields_or members_of c.members_of.result (top_at (view c.args.value.now)) Top _ c.in_ok-members.ensures c.members_of.ensures in
    rw (p.1, p.2, members) (fails_bind c.in_err-tasks.field-0.0 _ _ c.in_err-tasks.ensures)

pub returns-in_err-claims : goal.returns-in_err-claims
unfolding spelled_at
returns-in_err-claims c =
    let p = err_from_is_err_and c.from_residual-in_err-claims.result c.from_residual-in_err-claims.ensures.1 in
    let members = yields_or members_of c.members_of.result (top_at (view c.args.value.now)) Top _ c.in_ok-members.ensures c.members_of.ensures in
    rw (p.1, p.2, members, c.in_ok-tasks.ensures) (fails_bind c.in_err-claims.field-0.0 _ _ c.in_err-claims.ensures)

pub returns-in_err-start : goal.returns-in_err-start
unfolding spelled_at
returns-in_err-start c =
    let p = err_from_is_err_and c.from_residual-in_err-start.result c.from_residual-in_err-start.ensures.1 in
    let members = yields_or members_of c.members_of.result (top_at (view c.args.value.now)) Top _ c.in_ok-members.ensures c.members_of.ensures in
    let start = yields_or (option_map start_of) c.start_or_none.result (start_or_none (option_map (λ v. view v.now) c.in_ok-members.members.start)) Start _ c.in_err-start.ensures c.start_or_none.ensures in
    rw (p.1, p.2, members, c.in_ok-tasks.ensures, c.in_ok-claims.ensures) (fails_bind c.in_err-start.field-0.0 _ _ start)

pub returns : goal.returns
unfolding spelled_at
returns c =
    let members = yields_or members_of c.members_of.result (top_at (view c.args.value.now)) Top _ c.in_ok-members.ensures c.members_of.ensures in
    let start = yields_or (option_map start_of) c.start_or_none.result (start_or_none (option_map (λ v. view v.now) c.in_ok-members.members.start)) Start _ c.in_ok-start.ensures c.start_or_none.ensures in
    rw (members, c.in_ok-tasks.ensures, c.in_ok-claims.ensures, start) refl
