use Rattle.std.proofs.Common.{◌≡◌, ◌∙◌, ◌+◌, ℕ, [], Option, Some, None, Err, refl, subst, sym, arith}
use Rattle.tpl_model.proofs.Truths.{true_false}
use Rattle.tpl_model.specs.declared.fault.CertFault.{CertFault}
use Rattle.tpl_laws.specs.Verdict.{leaves}
use Rattle.tpl_laws.specs.TokenVerdict.{}
use Rattle.tpl_token_leaf.specs.Leaf.{leaf_assumed}
use Rattle.tpl_token_check.specs.declared.error.TokenFault.{TokenFault}
use Rattle.tpl_token_check.specs.declared.error.TokenFault.TheVariants.{Fails}
use Rattle.tpl_token_check.specs.Faults.{FailingWithTokens}
use Rattle.tpl_token_check.specs.Check.{graph_in}
use Rattle.tpl_token_check.proofs.TokenShapeLemmas.{at_most_729_leaves}
use Rattle.tpl_token_check.proofs.accepted.accepts_tree.Goals as goal

no_some : {A B : Type 0} (x : A) → Some x ≡ None → B
no_some x e = absurd (cc)

failed : (o : Option CertFault) (n : ℕ) (e : TokenFault) (x : CertFault) → e ≡ Fails x → FailingWithTokens o n (Err e) → o ≡ Some x
failed o n e x is h = subst (λ (z : TokenFault). FailingWithTokens o n (Err z)) is h

pub tree_fault-requires-clause-room : goal.tree_fault-requires-clause-room
tree_fault-requires-clause-room c = omega (arith, at_most_729_leaves c.args.tree.now c.requires.height)

pub returns-then-not-fits : goal.returns-then-not-fits
returns-then-not-fits c =
    let g = graph_in c.args.check.now in
    let p = c.args.check.now.property in
    let right = c.token_tree_is_right.ensures g p c.args.check.now.claim (leaf_assumed c.args.assumed.now []) 1 c.args.tree.now c.valid_law.ensures.graph in
    (λ e. true_false (sym e), λ a. sym c.if-not-fits.true ∙ (c.fits.ensures ∙ (right.1 a).0))

pub returns-in-Ok : goal.returns-in-Ok
returns-in-Ok c =
    let g = graph_in c.args.check.now in
    let p = c.args.check.now.property in
    let right = c.token_tree_is_right.ensures g p c.args.check.now.claim (leaf_assumed c.args.assumed.now []) 1 c.args.tree.now c.valid_law.ensures.graph in
    (λ e. right.0 (sym c.fits.ensures ∙ c.if-not-fits.false, c.in-Ok.ensures.0), λ a. refl)

pub returns-in-Err-Fails : goal.returns-in-Err-Fails
returns-in-Err-Fails c =
    let g = graph_in c.args.check.now in
    let p = c.args.check.now.property in
    let right = c.token_tree_is_right.ensures g p c.args.check.now.claim (leaf_assumed c.args.assumed.now []) 1 c.args.tree.now c.valid_law.ensures.graph in
    (λ e. true_false (sym e), λ a. no_some _ (sym (failed _ (1 + leaves c.args.tree.now) c.in-Err-Fails.field-0 _ c.in-Err-Fails.field-0-is c.in-Err-Fails.ensures) ∙ (right.1 a).1))
