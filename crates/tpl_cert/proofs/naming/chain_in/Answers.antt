use Rattle.std.proofs.Common.{rules}
use Rattle.tpl_draft.specs.Ids.{task_number}
use Rattle.tpl_json.proofs.Reading.{each_yields}
use Rattle.tpl_cert.specs.Naming.{number_in}
use Rattle.tpl_cert.proofs.naming.chain_in.Goals as goal

pub returns : goal.returns
returns c = each_yields (λ n text. number_in c.args.graph.now.names.tasks text) (λ s. s.now) task_number c.read_each.ensures (λ n x r k. search rules)
