use Rattle.std.proofs.Common.{ok_or, rules}
use Rattle.tpl_draft.specs.Ids.{token_number}
use Rattle.tpl_json.proofs.Reading.{each_yields}
use Rattle.tpl_cert.specs.Naming.{number_of}
use Rattle.tpl_reader.specs.declared.fault.StartFault.TheVariants.{Unknown}
use Rattle.tpl_reader.proofs.begin.tokens_in.Goals as goal

pub returns : goal.returns
returns c = each_yields (λ n text. ok_or (number_of c.args.graph.now.names.tokens text) Unknown) (λ s. s.now) token_number c.read_each.ensures (λ n x r k. search rules)
