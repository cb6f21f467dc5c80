use Rattle.tpl_verify.proofs.verifying.verify_claim.Goals as goal

pub returns-in_ok-empty-in-Holds-clause-verdict : goal.returns-in_ok-empty-in-Holds-clause-verdict
returns-in_ok-empty-in-Holds-clause-verdict c =
    let is = rw c.in-Holds.is at c.in_ok-certificate.ensures.judged in
    record { always = is.0; certified = is.1; empty = c.in_ok-empty-in-Holds.ensures.empty is.0; plain = c.in_ok-empty-in-Holds.ensures.plain }
