use Rattle.std.proofs.Common.{◌≡◌, ◌<◌, ◌∙◌, sym, length}
use Rattle.tpl_verify.proofs.BesideLemmas.{at_place, only_there, same_length}
use Rattle.tpl_verify.proofs.beside.answers.Goals as goal

pub returns-clause-count : goal.returns-clause-count
returns-clause-count g c =
    sym (same_length c.in_ok-all.all.items c.in_ok-places.places.items c.in_ok-all.ensures) ∙ c.in_ok-places.ensures.count

pub returns-clause-each : goal.returns-clause-each
returns-clause-each g c i verdict there =
    let w = at_place c.in_ok-all.all.items c.in_ok-places.places.items i verdict c.in_ok-all.ensures there in
    let lt : i < length c.in_ok-places.places.items = w.0 in
    let is = w.1 in
    rw is at (c.in_ok-places.ensures.each i (rw c.in_ok-places.ensures.count at lt))

pub returns-clause-same : goal.returns-clause-same
returns-clause-same g c one is i lt =
    let verdicts = c.in_ok-all.all.items in
    let count : length verdicts ≡ c.args.count = sym (same_length verdicts c.in_ok-places.places.items c.in_ok-all.ensures) ∙ c.in_ok-places.ensures.count in
    only_there verdicts i (one i) (rw count lt) (λ verdict there. is i verdict lt (returns-clause-each g c i verdict there))
