use Rattle.std.proofs.Common.{◌≡◌, ◌++◌, ◌∙◌, ap, arith, sym, ℕ, List, Result, Ok, Err, OnOk, is_ok, if◌then◌else◌, encode_utf8}
use Rattle.tpl_page.specs.Escape.{escaped}
use Rattle.tpl_page.proofs.EscapeLemmas.{escaped_letter}
use Rattle.tpl_page.proofs.escaping.add_letter.Goals as goal

-- a text and one character more, where there was memory for it
more : {A E : Type 0} (r : Result A E) (old new : List ℕ) (c : ℕ) → new ≡ (if is_ok r then old ++ encode_utf8 c else old) → escaped (encode_utf8 c) ≡ encode_utf8 c → OnOk r (new ≡ old ++ escaped (encode_utf8 c))
more (Ok x) old new c e plain = e ∙ ap (λ z. old ++ z) (sym plain)
more (Err x) old new c e plain = tt

pub returns-in_default : goal.returns-in_default
returns-in_default c =
    more c.push.result _ _ c.args.letter c.push.ensures.bytes (escaped_letter c.args.letter (λ e. grind (arith, c.in_default)) (λ e. grind (arith, c.in_default)))
