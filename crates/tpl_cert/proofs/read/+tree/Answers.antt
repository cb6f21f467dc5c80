use Rattle.std.proofs.Common.{◌≡◌, arith, false, ◌∷◌, [], codes, refl, sym, subst, Some, rules}
use Rattle.std.proofs.lemmas.Result.{err_from_is_err_and}
use Rattle.tpl_json.specs.View.{view}
use Rattle.tpl_cert.specs.Seen.{tree_of}
use Rattle.tpl_cert.specs.NamedTrees.{SplitInput}
use Rattle.tpl_cert.specs.declared.named.NamedTree.{the_lemmas}
use Rattle.tpl_json.specs.Members.{has_only, Gives}
use Rattle.tpl_cert.specs.Reading.{input_at, whole_tree}
use Rattle.tpl_json.proofs.Json.{member_lower}
use Rattle.tpl_cert.proofs.Levels.{input_misses, input_is}
use Rattle.tpl_cert.proofs.Trees.{whole_tree-node}
use Rattle.tpl_cert.proofs.read.+tree.Goals as goal

pub input_of-returns-then-not-has_only : goal.input_of-returns-then-not-has_only
unfolding input_at
input_of-returns-then-not-has_only t c =
    let h : false ≡ has_only (codes "split_input" ∷ codes "yes" ∷ codes "no" ∷ []) (view c.args.value.now) = c.if-not-has_only.ensures in
    rw (← h) refl

pub input_of-returns-in_err-name : goal.input_of-returns-in_err-name
input_of-returns-in_err-name t c =
    let p = err_from_is_err_and c.from_residual.result c.from_residual.ensures.1 in
    rw (p.1, p.2) (input_misses (whole_tree c.args.rules) (view c.args.value.now) c.in_err-name.field-0.0 c.if-not-has_only.ensures c.in_err-name.ensures.gives)

pub input_of-returns : goal.input_of-returns
input_of-returns t c =
    let q : input_at (whole_tree c.args.rules) (view c.args.value.now) ≡ Some (SplitInput c.in_ok-name.name.now (tree_of c.in_ok-first.first.value) (tree_of c.in_ok-second.second.value)) =
    input_is (whole_tree c.args.rules) (view c.args.value.now) _ _ _ c.if-not-has_only.ensures c.in_ok-name.ensures.gives c.in_ok-first.ensures c.in_ok-second.ensures in
    rw q (search (rules, the_lemmas))

pub named_tree-returns : goal.named_tree-returns
named_tree-returns t c = subst (λ o. Gives tree_of c.node_of.result o) (sym (whole_tree-node c.args.rules (view c.args.value.now))) c.node_of.ensures

pub branch_of-named_tree-requires : goal.branch_of-named_tree-requires
branch_of-named_tree-requires t c =
    let lt = member_lower c.args.name.now (view c.args.value.now) (view c.in_ok-member.member.now) c.in_ok-member.ensures.gives in
    omega (arith, lt)
