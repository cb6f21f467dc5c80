use Rattle.std.proofs.Common.{◌++◌, ◌∙◌, ap, sym, append_assoc, encode_utf8, encode_utf8_all, string_bytes}
use Rattle.tpl_page.specs.Escape.{escaped}
use Rattle.tpl_page.proofs.EscapeLemmas.{escaped_more}
use Rattle.tpl_page.proofs.escaping.add_escaped.Goals as goal

pub loop-letter-preserved : goal.loop-letter-preserved
loop-letter-preserved c =
    let old = string_bytes c.args.text.now in
    let letter = c.in-Some.letter in
    c.in_ok-add_letter.ensures ∙ ap (λ z. z ++ escaped (encode_utf8 letter)) c.loop-letter.invariant
    ∙ append_assoc old (escaped (encode_utf8_all c.loop-letter.yielded)) (escaped (encode_utf8 letter))
    ∙ ap (λ z. old ++ z) (sym (escaped_more c.loop-letter.yielded letter))
