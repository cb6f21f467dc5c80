use Rattle.std.proofs.Common.{Option, ℕ, sym, subst, inl, string_bytes}
use Rattle.tpl_reader.specs.SeenDocument.{doc_of}
use Rattle.tpl_verify.specs.Witness.{LacksClaim}
use Rattle.tpl_verify.proofs.refuting.answer_for.Goals as goal

pub returns-then-not-has_claim : goal.returns-then-not-has_claim
returns-then-not-has_claim g c =
    let doc = doc_of c.args.document.now in
    let text = string_bytes c.in_ok-format.field-0 in
    inl (subst (λ (o : Option ℕ). LacksClaim o doc text) (sym c.in-Some.is)
    (λ known. (let there = c.has_claim.ensures.1 known in let isnt = c.if-not-has_claim.true in cc), c.in_ok-format.ensures.ok))
