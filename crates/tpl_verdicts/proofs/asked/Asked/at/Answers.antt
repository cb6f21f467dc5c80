use Rattle.std.proofs.Common.{ap, refl}
use Rattle.std.proofs.lemmas.Option.{slice_get_read}
use Rattle.tpl_graph.specs.Fits.{Fits}
use Rattle.tpl_verdicts.proofs.EntryLemmas.{all_at}
use Rattle.tpl_verdicts.proofs.asked.Asked.at.Goals as goal

pub returns-clause-right : goal.returns-clause-right
returns-clause-right c =
    let asked = c.args.self.now in
    let claim = c.index-claims-place.result in
    record {
      fits = all_at (Fits asked.graph.now.graph) asked.claims.now c.args.place claim c.requires.within c.index-claims-place.is c.requires.fits;
      verdict = c.requires.true_of claim (slice_get_read asked.claims.now _ c.args.place claim refl c.requires.within c.index-claims-place.is);
    }

pub returns-clause-claim : goal.returns-clause-claim
returns-clause-claim c =
    slice_get_read c.args.self.now.claims.now _ c.args.place c.index-claims-place.result refl c.requires.within c.index-claims-place.is

pub returns-clause-told : goal.returns-clause-told
returns-clause-told c =
    ap (λ name. record { claim = c.index-claims-place.result; name = name; verdict = c.args.verdict.now }) c.name_at.ensures
