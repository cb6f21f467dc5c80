use Rattle.std.proofs.Common.{◌≡◌, ◌<◌, ◌&&◌, length, ap, sym, ◌∙◌, arith}
use Rattle.std.proofs.lemmas.Bool.{le-ltb}
use Rattle.tpl_paths.specs.TokenSet.{has_token}
use Rattle.tpl_paths.proofs.TokenBits.{none_set}
use Rattle.tpl_model.specs.TokenRules.{linked}
use Rattle.tpl_token_leaf.proofs.LinkLemmas.{all_links, links_here, with_this, without_this}
use Rattle.tpl_token_leaf.proofs.linking.links_of.Goals.{then-is_linked, else-is_linked}
use Rattle.tpl_token_leaf.proofs.linking.links_of.Goals as goal

pub loop-number-init : goal.loop-number-init
loop-number-init c = record {
  members = λ j. ap (λ s. has_token s j) c.empty-found.ensures ∙ (none_set j ∙ sym (ap (λ z. z && linked c.args.graph.now.graph c.args.token.0 j) (le-ltb j 0 (omega arith))));
}

pub loop-number-preserved : goal.loop-number-preserved
loop-number-preserved c =
    let g = c.args.graph.now.graph in
    let k = c.args.token.0 in
    let n = c.loop-number.number in
    let lt : n < length g.tokens = omega arith in
    let here = c.is_linked.ensures ∙ links_here g k n c.loop-number.found c.valid_law.ensures.graph lt c.loop-number.invariant in
    elim c.if-is_linked.branch [
      | then-is_linked w ↦ rw w.found-is (with_this g k n c.loop-number.found w.insert.new.self c.loop-number.invariant (sym here ∙ w.if-is_linked.true) w.insert.ensures)
      | else-is_linked w ↦ rw w.found-is (without_this g k n c.loop-number.found c.loop-number.invariant (sym here ∙ w.if-is_linked.false))
    ]

pub returns : goal.returns
returns c =
    let g = c.args.graph.now.graph in
    let all : c.loop-number.number ≡ length g.tokens = omega arith in
    all_links g c.args.token.0 c.loop-number.number c.loop-number.found c.requires all c.loop-number.invariant
