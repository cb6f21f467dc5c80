use Rattle.std.proofs.Common.{◌++◌, ◌∙◌, ap}
use Rattle.json.specs.Print.{print}
use Rattle.json.specs.Tree.{json_tokens}
use Rattle.serde_json.specs.Written.{outline}
use Rattle.serde_json.proofs.Texts.{print-outline}
use Rattle.tpl_cert.specs.Written.{certificate_data}
use Rattle.tpl_cert.proofs.Again.{all_read_again}
use Rattle.tpl_cert.proofs.Texts.{certificate_read}
use Rattle.tpl_cert.proofs.text.trees_text.Goals as goal

pub returns-clause-written : goal.returns-clause-written
returns-clause-written c =
    let e = c.in_ok-write_trees.ensures in
    let d = certificate_data c.args.rules c.args.graph.now.names c.args.trees.now in
    c.text_of.ensures.text ∙ ap print (e.1.0.1 ∙ ap (λ ts. ts ++ json_tokens (outline d)) c.new-out.ensures.tokens) ∙ print-outline d

pub returns-clause-reads : goal.returns-clause-reads
returns-clause-reads c low =
    let e = c.in_ok-write_trees.ensures in
    certificate_read c.args.rules c.args.graph.now.names c.args.trees.now _ low
    (c.text_of.ensures.tokens ∙ e.1.0.1 ∙ ap (λ ts. ts ++ json_tokens (outline (certificate_data c.args.rules c.args.graph.now.names c.args.trees.now))) c.new-out.ensures.tokens)

pub returns-clause-spells : goal.returns-clause-spells
returns-clause-spells c =
    let e = c.in_ok-write_trees.ensures in
    all_read_again c.args.rules c.args.graph.now.names (record { inputs = c.valid_law.ensures.inputs_once; tasks = c.valid_law.ensures.tasks_once; tokens = c.valid_law.ensures.tokens_once }) c.args.trees.now c.requires e.0 e.1.1
