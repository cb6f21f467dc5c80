use Rattle.std.proofs.Common.{◌≡◌, ◌++◌, Some, codes, string_bytes, subst, sym}
use Rattle.std.specs.List.{All}
use Rattle.serde_json.specs.Read.{read}
use Rattle.serde_json.specs.Written.{compact_text}
use Rattle.tpl_model.specs.declared.rule_set.RuleSet.{RuleSet}
use Rattle.tpl_cert.specs.Written.{certificate_data}
use Rattle.tpl_commands.specs.Proof.{trees_of, IsRead}
use Rattle.tpl_commands.proofs.searching.certificate_answer.Goals as goal

pub returns : goal.returns
returns c =
    let names = c.args.document.now.graph.names in
    let trees = trees_of c.args.proof.now in
    let rules = sym c.requires.0 in
    let back = c.found_law.ensures.back (subst (λ (r : RuleSet). All (IsRead r names) trees) rules c.in_ok-text.ensures.read) in (
      record {
        trees = trees;
        accepted = c.requires.1.accepted;
        hold = c.found_law.ensures.hold;
        splits = c.requires.1.splits;
        of_form = c.requires.1.of_form;
        read = back.0;
        again = back.1;
        value = subst (λ (r : RuleSet). read (compact_text (certificate_data r names trees)) ≡ Some (certificate_data r names trees)) rules c.in_ok-text.ensures.value;
        written = subst (λ (r : RuleSet). string_bytes c.in_ok-text.text ≡ compact_text (certificate_data r names trees) ++ codes "\n") rules c.in_ok-text.ensures.written;
      },
      c.in_ok-text.ensures.written,
    )
