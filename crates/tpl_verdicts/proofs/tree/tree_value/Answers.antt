use Rattle.std.proofs.Common.{◌∙◌, List, [], ap, subst, sym}
use Rattle.std.specs.List.{All}
use Rattle.std.proofs.lemmas.List.Elements.{All-head}
use Rattle.tpl_model.specs.Certificate.{Tree}
use Rattle.tpl_trees.specs.Heights.{IsWithinLimits}
use Rattle.tpl_cert.specs.Written.{certificate_data, tree_data}
use Rattle.tpl_reader.specs.Laws.{IsReadBack}
use Rattle.tpl_commands.proofs.TakenBack.{within}
use Rattle.tpl_verdicts.proofs.tree.tree_value.Goals as goal

pub only-requires : goal.only-requires
only-requires c =
    let one = c.accepted_law.ensures.one in
    let whole = certificate_data c.args.rules c.args.graph.now.names in
    (tree_data c.args.rules c.args.graph.now.names one.0, c.in_ok-trees.ensures.value ∙ ap whole (c.trees.ensures ∙ one.1))

pub returns : goal.returns
returns c =
    let names = c.args.graph.now.names in
    let one = c.accepted_law.ensures.one in
    let Back = IsReadBack c.args.rules names in
    let whole = certificate_data c.args.rules names in
    let low = subst (λ (trees : List Tree). All IsWithinLimits trees) (sym c.trees.ensures) c.limits_law.ensures in
    let all = within c.args.rules names c.trees.result.now c.in_ok-trees.ensures.read low in
    record {
      tree = one.0;
      only = one.1;
      written = c.only.ensures (tree_data c.args.rules names one.0) (c.in_ok-trees.ensures.value ∙ ap whole (c.trees.ensures ∙ one.1));
      back = All-head Back one.0 [] (subst (λ (trees : List Tree). All Back trees) (c.trees.ensures ∙ one.1) all);
    }
