use Rattle.std.proofs.Common.{sym, arith}
use Rattle.std.specs.Option.{option_map}
use Rattle.tpl_json.specs.View.{view}
use Rattle.tpl_reader.proofs.Begins.{lacks_truth, truths_all}
use Rattle.tpl_reader.proofs.begin.values_in.Goals as goal

pub returns-in-None : goal.returns-in-None
returns-in-None c = lacks_truth (option_map (λ v. view v.now) c.args.inputs) c.args.graph.now.names.inputs c.loop-index.index c.input_name.result.now c.input_name.ensures (sym c.in-None.ensures)

pub returns : goal.returns
returns c = truths_all c.args.graph.now.names.inputs (option_map (λ v. view v.now) c.args.inputs) c.loop-index.values c.loop-index.index (omega arith) c.loop-index.invariant
