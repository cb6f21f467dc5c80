use Rattle.std.proofs.Common.{◌≡◌, sym, subst}
use Rattle.tpl_checker.specs.declared.assumptions.Assumptions.{Assumptions}
use Rattle.tpl_checker.specs.Assumptions.{assumed_of, with_ended}
use Rattle.tpl_checker.proofs.Assuming.{with_given_left}
use Rattle.tpl_checker.proofs.assumptions.Assumptions.with_ended.Goals as goal

pub returns : goal.returns
returns c =
    let a = c.args.self.now in
    let t = c.args.task.0 in
    subst (λ (b : Assumptions). assumed_of (record b { ended = c.keeping-assumed.result }) ≡ with_ended (assumed_of a) t c.args.ends) (sym c.copy-assumed.ensures)
    (with_given_left a c.keeping-assumed.result t c.args.ends c.keeping-assumed.ensures)
