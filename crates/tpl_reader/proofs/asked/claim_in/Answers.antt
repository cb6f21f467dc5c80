use Rattle.std.proofs.Common.{◌≡◌, ◌∙◌, List, true, false, map, refl, sym, ap}
use Rattle.std.specs.Prelude.{◌||◌}
use Rattle.std.proofs.lemmas.Result.{err_from_is_err_and}
use Rattle.tpl_model.specs.declared.claim.Given.{Given}
use Rattle.tpl_parts.specs.declared.named.NamedGiven.{NamedGiven}
use Rattle.tpl_graph.specs.Fits.{given_twice}
use Rattle.tpl_parts.specs.SeenClaims.{given_of, claim_of}
use Rattle.tpl_reader.specs.Asked.{singles_in, says_twice, claim_in}
use Rattle.tpl_json.proofs.Passes.{fails_bind, want_of_memory}
use Rattle.tpl_reader.proofs.Asking.{asked}
use Rattle.tpl_reader.proofs.asked.claim_in.Goals as goal

pub returns-in_err-singles : goal.returns-in_err-singles
unfolding claim_in
returns-in_err-singles c =
    let p = err_from_is_err_and c.from_residual.result c.from_residual.ensures.1 in
    rw (p.1, p.2) (fails_bind c.in_err-singles.field-0.0 (singles_in c.args.graph.now.names (map given_of c.args.claim.now.given.items)) _ (rw c.deref.ensures.value at c.in_err-singles.ensures))

pub returns-in-None : goal.returns-in-None
unfolding claim_in
returns-in-None c =
    let singles = rw c.deref.ensures.value at c.in_ok-singles.ensures in
    rw (singles, ← c.in-None.ensures) refl

pub returns-then-not-have_bodies : goal.returns-then-not-have_bodies
unfolding claim_in
returns-then-not-have_bodies c =
    let singles = rw c.deref.ensures.value at c.in_ok-singles.ensures in
    rw (singles, ← c.in-Some.ensures, ← c.if-not-have_bodies.ensures) refl

pub returns-then-is_given_twice : goal.returns-then-is_given_twice
unfolding claim_in
returns-then-is_given_twice c =
    let s = claim_of c.args.claim.now in
    let singles = rw c.deref.ensures.value at c.in_ok-singles.ensures in
    let twice : (given_twice c.in_ok-singles.singles.items || says_twice s.given) ≡ true = ap (λ (xs : List Given). given_twice xs || says_twice s.given) (sym c.deref-2.ensures.value)
    ∙ ap (λ (ys : List NamedGiven). given_twice c.deref-2.result.now || says_twice (map given_of ys)) (sym c.deref-3.ensures.value) ∙ sym c.if-is_given_twice.ensures in
    rw (singles, ← c.in-Some.ensures, ← c.if-not-have_bodies.ensures, twice) refl

pub returns-in_err-given : goal.returns-in_err-given
returns-in_err-given c =
    let p = err_from_is_err_and c.from_residual-in_err-given.result c.from_residual-in_err-given.ensures.1 in
    rw (p.1, p.2) (want_of_memory c.in_err-given.field-0.0 (claim_in c.args.graph.now (claim_of c.args.claim.now)) c.in_err-given.ensures.err)

pub returns : goal.returns
returns c =
    let s = claim_of c.args.claim.now in
    let singles = c.in_ok-singles.singles.items in
    let never : (given_twice singles || says_twice s.given) ≡ false = ap (λ (xs : List Given). given_twice xs || says_twice s.given) (sym c.deref-2.ensures.value)
    ∙ ap (λ (ys : List NamedGiven). given_twice c.deref-2.result.now || says_twice (map given_of ys)) (sym c.deref-3.ensures.value) ∙ sym c.if-is_given_twice.ensures in
    asked c.args.graph.now s c.new.result singles c.in-Some.body (rw c.deref.ensures.value at c.in_ok-singles.ensures) (sym c.in-Some.ensures) (sym c.if-not-have_bodies.ensures) never
    (c.new.ensures.given ∙ (rw c.deref-4.ensures.value at c.in_ok-given.ensures.ok)) c.new.ensures.body
