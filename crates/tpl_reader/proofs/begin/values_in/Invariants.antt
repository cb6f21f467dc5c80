use Rattle.std.specs.Option.{option_map}
use Rattle.tpl_json.specs.View.{view}
use Rattle.tpl_reader.proofs.Begins.{TruthsTo}
use Rattle.tpl_reader.proofs.begin.values_in.Given as goal

abbrev pub invariant-loop-index : goal.invariant-loop-index
invariant-loop-index l = TruthsTo l.graph.names.inputs (option_map (λ v. view v.now) l.inputs) l.values l.index
