use Rattle.std.proofs.Common.{◌≡◌, ◌||◌, ℕ, Bool, true, false, List, [], ◌∷◌, codes, encode_utf8_all, refl, subst, sym}
use Rattle.std.specs.List.{list_any}
use Rattle.std.specs.Str.{NonePass}
use Rattle.std.proofs.lemmas.Result.{IfOk-weaker}
use Rattle.tpl_reasons.specs.Hidden.{is_hidden, IsShown}
use Rattle.tpl_reasons.proofs.shown.said.Goals as goal

neither : (a b : Bool) → (a || b) ≡ false → (a ≡ false) × (b ≡ false)
neither true b e = absurd cc
neither false b e = (refl, e)

none_hidden : (cs : List ℕ) → list_any is_hidden cs ≡ false → NonePass is_hidden cs
none_hidden [] e = tt
none_hidden (c ∷ cs) e = let both = neither (is_hidden c) (list_any is_hidden cs) e in (both.0, none_hidden cs both.1)

-- a text of ASCII characters, none of which is hidden
plain : (text : List ℕ) → encode_utf8_all text ≡ text → list_any is_hidden text ≡ false → IsShown text
plain text ascii none = (text, ascii, none_hidden text none)

see_is_shown : IsShown (codes "docs/OUTPUT.md has each answer, and what to do\n")
unfolding lib.Utf8.encode
see_is_shown = plain (codes "docs/OUTPUT.md has each answer, and what to do\n") refl refl

pub returns-then-is_empty-clause-shown : goal.returns-then-is_empty-clause-shown
returns-then-is_empty-clause-shown c =
    IfOk-weaker c.from_str.result _ _ (λ text e. subst IsShown (sym e) see_is_shown) c.from_str.ensures.ok
