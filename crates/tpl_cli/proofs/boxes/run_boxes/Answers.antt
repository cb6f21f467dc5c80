use Rattle.std.proofs.Common.{◌∙◌, ap, arith, inl, inr, length, not, subst, sym}
use Rattle.std.proofs.lemmas.Option.{get_or_from_slice_get}
use Rattle.std.specs.Prelude.{false}
use Rattle.tpl_draft.specs.Named.{all_may_fail}
use Rattle.tpl_model.specs.declared.ids.SiteId.{SiteId}
use Rattle.tpl_reader.specs.SeenDocument.{doc_of}
use Rattle.tpl_report.specs.Prevents.{Prevents, StopsSession}
use Rattle.tpl_cli.proofs.BoxLemmas.{AreFirst, all_sites, fails_at, none_yet, prevent_none, pushed, serves_wider, unpushed}
use Rattle.tpl_cli.proofs.boxes.run_boxes.Goals as goal
use Rattle.tpl_cli.proofs.boxes.run_boxes.Goals.{else-loop-number-test, then-loop-number-test+in_default, then-loop-number-test+in-Ok+then-is_err}

pub loop-number-init : goal.loop-number-init
loop-number-init g c = none_yet (λ x. x.site.0) (λ x. x.may_fail) (fails_at c.args.document.now.graph) c.new-items.result.items c.new-items.ensures.items

pub loop-number-preserved : goal.loop-number-preserved
loop-number-preserved g c =
    let n = c.args.document.now.graph in
    pushed (λ x. x.site.0) (λ x. x.may_fail) (fails_at n) c.loop-number.number c.loop-number.items.items c.push.new.self.items _ _ c.loop-number.invariant c.push.ensures.items
    (c.is_err.ensures.negation ∙ ap not c.if-is_err.false)
    (ap (λ (s : SiteId). s.0) c.new-item.ensures.site)
    (c.new-item.ensures.may_fail ∙ sym (get_or_from_slice_get (all_may_fail n.graph) c.loop-number.number c.site_may_fail-may_fail.result false c.site_may_fail-may_fail.ensures))

pub returns-then-len-sites : goal.returns-then-len-sites
returns-then-len-sites g c = inr c.put_out_of_memory.ensures

pub returns : goal.returns
returns g c =
    let n = c.args.document.now.graph in
    let count = c.loop-number.number in
    let was = c.loop-number.invariant in
    let all = all_sites (λ x. x.site.0) (λ x. x.may_fail) (fails_at n) (length n.names.sites) count c.loop-number-test.items.items (elim c.loop-number-test.branch [
      | else-loop-number-test w ↦ subst (λ v. AreFirst (λ x. x.site.0) (λ x. x.may_fail) (fails_at n) count v.items) (sym w.items-is) was
      | then-loop-number-test+in_default w ↦ subst (λ v. AreFirst (λ x. x.site.0) (λ x. x.may_fail) (fails_at n) count v.items) (sym w.items-is) was
      | then-loop-number-test+in-Ok+then-is_err w ↦ subst (λ v. AreFirst (λ x. x.site.0) (λ x. x.may_fail) (fails_at n) count v.items) (sym w.items-is)
          (unpushed (λ x. x.site.0) (λ x. x.may_fail) (fails_at n) count c.loop-number.items.items w.push.new.self.items _ _ was w.push.ensures.items (w.is_err.ensures.negation ∙ ap not w.if-is_err.true))
    ]) (omega (arith, c.loop-number.auto.number-end, c.site_count-sites.ensures.count)) (omega (arith, c.len.ensures, c.if-len-sites.false, c.site_count-sites.ensures.count)) in
    inl (serves_wider c.args.telling (doc_of c.args.document.now) c.args.crew.workers (Prevents (λ x. x.site.0) (λ x. x.may_fail) c.loop-number-test.items.items) (λ _. StopsSession)
    (prevent_none (λ x. x.site.0) (λ x. x.may_fail) n c.args.crew.workers c.loop-number-test.items.items all)
    g.O.Write.contents c.args.to.now c.serve_run_followed.new.to c.serve_run_followed.result c.serve_run_followed.ensures)
