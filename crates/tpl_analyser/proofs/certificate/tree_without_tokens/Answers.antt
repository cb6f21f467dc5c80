use Rattle.std.proofs.Common.{◌≤◌, IfOk, IfSome, ap, subst}
use Rattle.tpl_model.specs.Certificate.{Assumed}
use Rattle.tpl_trees.specs.Heights.{height}
use Rattle.tpl_checker.specs.Assumptions.{assumed_of}
use Rattle.tpl_analyser.specs.Found.{IsFound}
use Rattle.tpl_analyser.specs.Plans.{IsPlan}
use Rattle.tpl_analyser.proofs.FoundLemmas.{found_deeper, if_found}
use Rattle.tpl_analyser.proofs.certificate.tree_without_tokens.Goals as goal

pub returns-in-Some : goal.returns-in-Some
returns-in-Some over c =
    let q = c.args.question in
    let g = q.graph.now.graph in
    let n = height c.in-Some.plan in
    let l = assumed_of c.root-root.result.premises.assumptions in
    let planned : IfSome c.in_ok-deepened.field-0 (IsPlan g c.args.depth) = c.in_ok-deepened.ensures in
    let le : n ≤ c.args.depth = (rw c.in-Some.is at planned).height in
    let deep = if_found (IsFound g q.property q.form l n) (IsFound g q.property q.form l c.args.depth)
    (λ t f. found_deeper g q.property q.form l n c.args.depth t le f) c.grown.result c.grown.ensures in
    subst (λ (a : Assumed). IfOk c.grown.result (λ found. IfSome found (IsFound g q.property q.form a c.args.depth))) (ap assumed_of c.root-root.ensures) deep
