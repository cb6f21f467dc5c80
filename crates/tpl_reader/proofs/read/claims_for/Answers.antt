use Rattle.std.proofs.Common.{map, length, arith}
use Rattle.std.proofs.lemmas.List.{length-map}
use Rattle.tpl_parts.specs.SeenClaims.{claim_of}
use Rattle.tpl_reader.proofs.Asking.{all_asked_fit, yields_few, too_many}
use Rattle.tpl_reader.proofs.read.claims_for.Goals as goal

pub returns-then-claims-most-clause-claims : goal.returns-then-claims-most-clause-claims
returns-then-claims-most-clause-claims c =
    let long = length-map c.args.claims.now claim_of in
    rw c.most_claims-most.ensures (too_many c.args.version c.args.graph.now (map claim_of c.args.claims.now) (omega (arith, long)))

pub returns-clause-claims : goal.returns-clause-claims
returns-clause-claims c =
    let long = length-map c.args.claims.now claim_of in
    yields_few c.args.version c.args.graph.now (map claim_of c.args.claims.now) (λ v. v.items) c.claims_in.result (omega (arith, long)) c.claims_in.ensures

pub returns-clause-fits : goal.returns-clause-fits
returns-clause-fits c = all_asked_fit c.args.graph.now c.valid_law.ensures (map claim_of c.args.claims.now) (λ v. v.items) c.claims_in.result c.claims_in.ensures
