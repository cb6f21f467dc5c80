use Rattle.std.proofs.Common.{ap, sym, ◌∙◌}
use Rattle.tpl_laws.specs.ClaimTests.{proves}
use Rattle.tpl_checker.specs.Assumptions.{assumed_of}
use Rattle.tpl_model.specs.Certificate.{plain}
use Rattle.tpl_checker.proofs.property.proves.Goals as goal

pub returns-in-Runs : goal.returns-in-Runs
returns-in-Runs c =
    let l = assumed_of c.args.assumed.now in
    c.runs-in-Runs.ensures l ∙ ap (proves c.args.graph.now.graph l (plain c.args.rows.now)) (sym c.in-Runs.is)
