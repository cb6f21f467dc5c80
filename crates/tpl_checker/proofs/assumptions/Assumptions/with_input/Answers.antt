use Rattle.std.proofs.Common.{◌≡◌, ◌<◌, length, slice_set, sym, subst, arith}
use Rattle.tpl_model.specs.Certificate.{with_input}
use Rattle.tpl_checker.specs.declared.assumptions.Assumptions.{Assumptions}
use Rattle.tpl_checker.specs.Assumptions.{assumed_of}
use Rattle.tpl_checker.proofs.Assuming.{with_possible, possible_set}
use Rattle.tpl_checker.proofs.assumptions.Assumptions.with_input.Goals as goal

pub returns : goal.returns
returns c =
    let a = c.args.self.now in
    let i = c.args.input.0 in
    let within : i < length a.inputs = omega arith in
    subst (λ (b : Assumptions). assumed_of (record b { inputs = slice_set b.inputs i c.narrowed.result }) ≡ with_input (assumed_of a) i c.args.value) (sym c.copy-assumed.ensures)
    (with_possible a (slice_set a.inputs i c.narrowed.result) i c.args.value (possible_set a.inputs i c.narrowed.result _ c.args.value within c.narrowed.ensures))
