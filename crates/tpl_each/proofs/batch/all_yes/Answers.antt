use Rattle.std.proofs.Common.{rules, tests, sym, ◌∙◌}
use Rattle.std.proofs.lemmas.Iterator.{YieldsList-from_slice}
use Rattle.std.proofs.lemmas.Iterator.Search.{all_from_yields_List}
use Rattle.tpl_each.specs.declared.slot.Slot.{Slot}
use Rattle.tpl_each.specs.Said.{Said, is_yes}
use Rattle.tpl_each.specs.Slots.{said_of}
use Rattle.tpl_each.proofs.Lists.{list_all-map}
use Rattle.tpl_each.proofs.batch.all_yes.Goals as goal

pub returns : goal.returns
returns c =
    all_from_yields_List (λ (slot : Slot). is_yes (said_of slot).exit) _ _ c.all.result c.all.ensures.ran (YieldsList-from_slice c.args.slots.now cc) (λ x b q k. search (rules, tests))
    ∙ sym (list_all-map (λ (said : Said). is_yes said.exit) said_of c.args.slots.now)
