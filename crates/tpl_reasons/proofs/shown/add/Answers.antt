use Rattle.std.proofs.Common.{◌≡◌, ◌++◌, ℕ, List, [], ◌∷◌, false, Result, Ok, Err, IfOk, is_ok, if◌then◌else◌, encode_utf8, subst, sym}
use Rattle.std.proofs.lemmas.List.{append-nil}
use Rattle.std.proofs.lemmas.Str.{NoCharPasses-append}
use Rattle.tpl_reasons.specs.Hidden.{is_hidden, IsShown}
use Rattle.tpl_reasons.proofs.shown.add.Goals as goal

-- a text of one character
one_shown : (c : ℕ) → is_hidden c ≡ false → IsShown (encode_utf8 c)
one_shown c shown = (c ∷ [], append-nil (encode_utf8 c), (shown, tt))

-- a text and one character more, where there was memory for it
more_shown : {A E : Type 0} (r : Result A E) (old new : List ℕ) (c : ℕ) → new ≡ (if is_ok r then old ++ encode_utf8 c else old) → is_hidden c ≡ false → IsShown old → IfOk r (λ _. IsShown new)
more_shown (Ok x) old new c e shown before = subst IsShown (sym e) (NoCharPasses-append is_hidden old (encode_utf8 c) before (one_shown c shown))
more_shown (Err x) old new c e shown before = tt

pub returns-clause-shown : goal.returns-clause-shown
returns-clause-shown c = more_shown c.push.result _ _ c.args.letter c.push.ensures.bytes c.requires.letter c.requires.text
