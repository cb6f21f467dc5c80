use Rattle.std.proofs.Common.{rules, ◌∙◌, sym}
use Rattle.tpl_model.proofs.ClaimLemmas.{try_map_map}
use Rattle.tpl_reader.specs.Asked.{task_in}
use Rattle.tpl_reader.proofs.asked.property_in.Goals as goal

pub returns : goal.returns
returns c = c.try_map.ensures (λ s. task_in c.args.graph.now.names s.now) (λ x r found. search rules) ∙ sym (try_map_map (task_in c.args.graph.now.names) (λ s. s.now) c.args.body.now)
