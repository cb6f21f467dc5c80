use Rattle.std.proofs.Common.{◌≡◌, ◌↔◌, IsTrue, ℕ, Option, ap, ◌∙◌, subst}
use Rattle.tpl_model.specs.Statements.{Statements}
use Rattle.tpl_model.specs.Paths.{Known, MayThrow}
use Rattle.tpl_model.specs.View.{known}
use Rattle.std.specs.Option.{option_map}
use Rattle.tpl_model.specs.Finals.{has}
use Rattle.tpl_draft.specs.Ids.{token_number}
use Rattle.tpl_model.specs.Graph.{body}
use Rattle.tpl_model.specs.Certificate.{Assumed, assumed}
use Rattle.tpl_verify.specs.Verdicts.{each_end, known_under}
use Rattle.tpl_verify.proofs.ThrowLemmas.{not_both, not_true}
use Rattle.tpl_verify.proofs.empty.throws_nowhere.Goals as goal

-- what the body sees, where this is assumed and its own token is that
abbrev seen : Assumed → Option ℕ → Known
seen z own = record { possible = z.possible; quiet = z.quiet; own = own; subject = has each_end; sure = z.sure }

pub returns : goal.returns
returns c =
    let g = c.args.graph.now.graph in
    let t = c.args.task.0 in
    let w = known_under g c.args.given.now t in
    let as_given = ap (λ (z : Assumed). seen z (option_map token_number c.own_token.result)) c.assumed.ensures in
    let as_own = ap (λ (own : Option ℕ). seen (assumed g c.args.given.now) own) c.own_token.ensures in
    let same : known c.view-view.result ≡ w = c.view-view.ensures ∙ as_given ∙ as_own in
    let throws : IsTrue c.may.result.thrown ↔ MayThrow w (body g t) =
    subst (λ (b : Statements). IsTrue c.may.result.thrown ↔ MayThrow w b) c.body.ensures
    (subst (λ (z : Known). IsTrue c.may.result.thrown ↔ MayThrow z c.body.result.now) same c.may.ensures.thrown) in
    (λ never may. not_both c.may.result.thrown never (throws.1 may), λ never. not_true c.may.result.thrown (λ thrown. never (throws.0 thrown)))
