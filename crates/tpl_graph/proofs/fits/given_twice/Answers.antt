use Rattle.std.proofs.Common.{◌≡◌, ℕ, ◌+◌, ◌<◌, false, List, length, take, drop, get_or, refl, ◌∙◌, drop-cons, add-one}
use Rattle.std.proofs.lemmas.List.{take_more}
use Rattle.std.specs.List.{list_any}
use Rattle.tpl_model.specs.declared.claim.Given.{Given}
use Rattle.tpl_graph.specs.Fits.{is_of_one_thing, given_again}
use Rattle.tpl_graph.proofs.fits.given_twice.Goals as goal

one_more : (given : List Given) (i : ℕ) (x : Given) → i < length given → false ≡ list_any (is_of_one_thing (get_or given i x)) (take i given) → given_again (take i given) (drop i given) ≡ given_again (take (i + 1) given) (drop (i + 1) given)
one_more given i x lt e = rw (drop-cons given i x lt, ← e, take_more given i x lt, add-one) refl

pub loop-index-preserved : goal.loop-index-preserved
loop-index-preserved c = c.loop-index.invariant ∙ one_more c.args.given.now c.loop-index.index _ c.loop-index-test.true c.if-is_given_in.ensures
