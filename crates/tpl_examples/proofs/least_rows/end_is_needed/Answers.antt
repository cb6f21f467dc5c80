use Rattle.std.proofs.Common.{◌≡◌, Ok, Err, Result, [], ◌∷◌, refl}
use Rattle.tpl_model.specs.declared.fault.CertFault.{CertFault}
use Rattle.tpl_model.specs.declared.fault.CertFault.TheVariants.{ClaimNot}
use Rattle.tpl_model.specs.Certificate.{LeastLeaf}
use Rattle.tpl_examples.proofs.Computed.{valid}
use Rattle.tpl_examples.specs.CertificateWords.{one_claim}
use Rattle.tpl_examples.specs.LeastRows.{fetch, not_both, by_end_of}
use Rattle.tpl_examples.proofs.least_rows.end_is_needed.Goals as goal

refused : (fault : CertFault) (said : Result (Unit {0}) CertFault) → said ≡ Err fault → said ≡ Ok tt → ⊥
refused fault said bad good = absurd (cc)

pub returns : goal.returns
returns c =
    let right = c.token_verdict_is_right.ensures in
    let is_graph = valid fetch refl in
    let by_end = right fetch (one_claim not_both) (by_end_of 0 ∷ []) is_graph in
    let alone = right fetch (one_claim not_both) (LeastLeaf ∷ []) is_graph in
    (by_end.0 refl, λ accepted. refused (ClaimNot 1 1) (Err (ClaimNot 1 1)) refl (alone.1 accepted))
