use Rattle.std.proofs.Common.{◌∙◌, List, subst}
use Rattle.tpl_reader.specs.SeenDocument.{doc_of}
use Rattle.tpl_commands.specs.Rules.{rules_of}
use Rattle.tpl_verdicts.specs.declared.word.Word.{Word}
use Rattle.tpl_verdicts.specs.Answer.{IsExit}
use Rattle.tpl_verdicts.proofs.Answering.{success_sound}
use Rattle.tpl_verdicts.proofs.verifying.answer_of.Goals as goal

pub returns-clause-answer : goal.returns-clause-answer
returns-clause-answer c =
    let doc = doc_of c.args.document.now in
    let verdicts = c.args.verdicts.now in
    let exit = c.exit_of-exit.result in
    let all = c.judgements_of-all.ensures in
    let ends = subst (λ (words : List Word). IsExit words exit) (c.deref.ensures.value ∙ c.in_ok-words.ensures) c.exit_of-exit.ensures.ends in
    record {
      verdicts = verdicts;
      true_of = c.requires.verdicts;
      within = c.requires.within;
      ends = ends;
      sound = success_sound (rules_of doc) doc.graph.graph doc.claims verdicts exit c.requires.verdicts ends;
      says = rw (all.rules, all.graph, all.told, all.verdicts) at c.in_ok-text.ensures;
    }
