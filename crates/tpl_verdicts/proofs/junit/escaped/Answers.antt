use Rattle.std.proofs.lemmas.Iterator.{YieldsList-from_chars}
use Rattle.std.proofs.lemmas.Iterator.Consumers.{YieldsList-end}
use Rattle.std.specs.Str.{chars}
use Rattle.std.specs.String.{string_bytes}
use Rattle.tpl_reasons.proofs.Spelled.{spelled_all, spelled_more}
use Rattle.tpl_verdicts.specs.Junit.{xml_letter}
use Rattle.tpl_verdicts.proofs.junit.escaped.Goals as goal

pub loop-letter-preserved : goal.loop-letter-preserved
loop-letter-preserved c =
    spelled_more xml_letter c.loop-letter.yielded c.in-Some.letter _ _ c.loop-letter.invariant c.in_ok-add_letter.ensures

pub returns : goal.returns
returns c =
    let t = YieldsList-end (YieldsList-from_chars c.args.text.now c.utf8.text cc) c.loop-letter.yielded _ c.loop-letter.yielded_by _ _ c.in-None.is c.next.ensures.steps in
    spelled_all xml_letter (chars c.args.text.now) c.loop-letter.yielded (string_bytes c.loop-letter.escaped) t.0 c.loop-letter.invariant
