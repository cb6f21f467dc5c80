use Rattle.std.proofs.Common.{◌∙◌}
use Rattle.tpl_reader.specs.SeenDocument.{doc_of}
use Rattle.tpl_commands.specs.Proof.{trees_of}
use Rattle.tpl_commands.specs.Rules.{rules_of}
use Rattle.tpl_commands.proofs.TakenBack.{within, taken_back}
use Rattle.tpl_commands.proofs.WrittenTrees.{plain_without_tokens, trees_known}
use Rattle.tpl_commands.proofs.searching.found_law.Goals as goal

pub returns-clause-ids : goal.returns-clause-ids
returns-clause-ids c =
    let doc = doc_of c.args.document.now in
    trees_known c.tokens_accept_more.ensures doc.graph c.valid_law.ensures (rules_of doc) doc.claims (trees_of c.args.proof.now) c.requires.1

pub returns-clause-plain : goal.returns-clause-plain
returns-clause-plain c = λ narrow.
    let doc = doc_of c.args.document.now in
    plain_without_tokens (rules_of doc) doc.graph.graph doc.claims (trees_of c.args.proof.now) c.requires.1 (c.requires.0 ∙ narrow)

pub returns-clause-hold : goal.returns-clause-hold
returns-clause-hold c = λ inputs events run.
    let doc = doc_of c.args.document.now in
    c.sound_by_rules.ensures (rules_of doc) doc.graph.graph doc.claims (trees_of c.args.proof.now) c.valid_law.ensures.graph c.requires.1 inputs events run

pub returns-clause-back : goal.returns-clause-back
returns-clause-back c = λ read.
    let doc = doc_of c.args.document.now in
    let trees = trees_of c.args.proof.now in
    let back = within (rules_of doc) doc.graph.names trees read c.limits_law.ensures in
    (back, taken_back c.one_document.ensures.one c.one_document.ensures.faultless c.certificate_is_read_back.ensures doc trees c.requires.1 back)
