use Rattle.std.proofs.Common.{map, rules}
use Rattle.tpl_json.specs.View.{view}
use Rattle.tpl_json.specs.Passes.{at_number}
use Rattle.tpl_json.proofs.Reading.{each_yields_same}
use Rattle.tpl_cert.specs.Spelled.{read_tree}
use Rattle.tpl_reader.proofs.TreeLaws.{tree_numbered, all_within}
use Rattle.tpl_reader.proofs.trees.trees_in.Goals as goal

pub returns-clause-yields : goal.returns-clause-yields
returns-clause-yields c = each_yields_same (λ n d. at_number n (read_tree c.args.rules c.args.graph.now.names d)) view c.read_each.ensures (λ n x r k. search (rules, tree_numbered))

pub returns-clause-limits : goal.returns-clause-limits
returns-clause-limits c = all_within c.args.rules c.args.graph.now.names (map view c.args.values.now) c.read_each.result (each_yields_same (λ n d. at_number n (read_tree c.args.rules c.args.graph.now.names d)) view c.read_each.ensures (λ n x r k. search (rules, tree_numbered)))
