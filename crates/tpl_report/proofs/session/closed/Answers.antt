use Rattle.std.proofs.Common.{◌∙◌, sym, ap, subst, length, map, List, ℕ}
use Rattle.std.proofs.lemmas.List.{length-map}
use Rattle.tpl_draft.specs.Ids.{token_number}
use Rattle.tpl_draft.specs.Named.{Named}
use Rattle.tpl_hall.specs.Answers.{shown}
use Rattle.tpl_runtime.specs.Reports.{AreOnce, ClosesWell}
use Rattle.tpl_report.specs.Reported.{IsReport, told}
use Rattle.tpl_report.proofs.CrewLemmas.{made_by}
use Rattle.tpl_report.proofs.ReceiptLemmas.{sites_shown}
use Rattle.tpl_report.proofs.session.closed.Goals as goal

pub returns-in-Ok-clause-report : goal.returns-in-Ok-clause-report
returns-in-Ok-clause-report g c =
    let r = c.in-Ok.report in
    let e = c.in-Ok.ensures.closes in
    subst (λ (n : Named). IsReport n c.args.session.inputs (told r)) c.requires.graph (record {
      run = e.whole.run;
      told = e.told;
      called = sym (length-map r.receipts.items shown) ∙ ap length e.whole.matched;
      back = map g.W.Item.site r.items.items;
      returned = sym (length-map r.items.items g.W.Item.site);
      once = subst (λ (sites : List ℕ). AreOnce (length c.args.session.graph.names.sites) sites (map g.W.Item.site r.items.items)) (sym (sites_shown r.receipts.items) ∙ ap (map (λ a. a.0)) e.whole.matched) e.whole.once;
    })

pub returns-in-Ok-clause-events : goal.returns-in-Ok-clause-events
returns-in-Ok-clause-events g c =
    let r = c.in-Ok.report in
    let e = subst (λ (n : Named). ClosesWell n c.args.session.inputs g.W.Item.site c.in_ok-seats.seats.items r) c.requires.graph c.in-Ok.ensures.closes in
    c.spells_run.ensures _ _ r.journal.items e.whole.run e.seats

pub returns-in-Ok-clause-made : goal.returns-in-Ok-clause-made
returns-in-Ok-clause-made g c =
    let r = c.in-Ok.report in
    let seats = c.in_ok-seats.seats.items in
    let e = subst (λ (n : Named). ClosesWell n c.args.session.inputs g.W.Item.site seats r) c.requires.graph c.in-Ok.ensures.closes in
    made_by c.args.graph.now.graph c.args.session.inputs c.args.crew.workers (map token_number c.args.tokens.now) seats r.journal.items c.in_ok-seats.ensures.seats e.own e.last e.seated
