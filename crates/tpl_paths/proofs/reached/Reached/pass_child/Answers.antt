use Rattle.std.proofs.Common.{Bool, Option, ap, ◌∙◌}
use Rattle.tpl_model.specs.declared.finals.Final.TheVariants.{Faulted}
use Rattle.tpl_model.specs.Finals.{has}
use Rattle.tpl_model.specs.Knowledge.{Knowledge, ends_well, meet, when, with_facts}
use Rattle.tpl_paths.specs.Facts.{has_fact}
use Rattle.tpl_paths.specs.Knowledge.{told}
use Rattle.tpl_paths.specs.Reading.{end_of}
use Rattle.tpl_paths.proofs.Taking.{same_reached, with_facts_when, burdened_by}
use Rattle.tpl_paths.proofs.reached.Reached.pass_child.Goals as goal

pub returns : goal.returns
returns c =
    let child = c.args.child.now in
    let facts = has_fact child.facts in
    let well = ends_well (end_of child) in
    let faulted = has child.ends Faulted in
    let unburdened = told c.args.self.now.unburdened in
    let burdened = told c.args.self.now.burdened in
    same_reached _ _ _ _
    (c.add_facts-2.ensures
    ∙ (ap (with_facts facts) c.keep_if-2.ensures
    ∙ (ap (λ (p : Bool). with_facts facts (when p unburdened)) c.ends_well-well.ensures
    ∙ with_facts_when well facts unburdened)))
    (c.add_facts.ensures
    ∙ (ap (with_facts facts) c.meet_if.ensures
    ∙ (ap (λ (p : Bool). with_facts facts (meet (told c.keep_if.new.paths) (when p unburdened))) c.contains-faulted.ensures
    ∙ (ap (λ (s : Option Knowledge). with_facts facts (meet s (when faulted unburdened))) c.keep_if.ensures
    ∙ (ap (λ (p : Bool). with_facts facts (meet (when p burdened) (when faulted unburdened))) c.may_end.ensures
    ∙ burdened_by well faulted facts unburdened burdened)))))
