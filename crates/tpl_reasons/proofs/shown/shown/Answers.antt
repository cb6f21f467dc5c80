use Rattle.std.proofs.lemmas.Iterator.{YieldsList-from_chars}
use Rattle.std.proofs.lemmas.Iterator.Consumers.{YieldsList-end}
use Rattle.std.specs.Str.{chars}
use Rattle.std.specs.String.{string_bytes}
use Rattle.tpl_reasons.specs.Spelling.{shown_letter}
use Rattle.tpl_reasons.proofs.Spelled.{spelled_all, spelled_more}
use Rattle.tpl_reasons.proofs.shown.shown.Goals as goal

pub loop-letter-preserved : goal.loop-letter-preserved
loop-letter-preserved c = record {
  shown = c.in_ok-add_letter.ensures.shown;
  spelled = spelled_more shown_letter c.loop-letter.yielded c.in-Some.letter _ _ c.loop-letter.invariant.spelled c.in_ok-add_letter.ensures.added;
}

pub returns-clause-spelled : goal.returns-clause-spelled
returns-clause-spelled c =
    let t = YieldsList-end (YieldsList-from_chars c.args.text.now c.utf8.text cc) c.loop-letter.yielded _ c.loop-letter.yielded_by _ _ c.in-None.is c.next.ensures.steps in
    spelled_all shown_letter (chars c.args.text.now) c.loop-letter.yielded (string_bytes c.loop-letter.shown) t.0 c.loop-letter.invariant.spelled
