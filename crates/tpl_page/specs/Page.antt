-- The page as a text.
use Rattle.std.specs.Prelude.{◌≡◌, ℕ, List, ◌++◌}
use Rattle.std.specs.List.{All}
use Rattle.tpl_page.specs.declared.template.TheConstants.{HEAD, MIDDLE, TAIL}
use Rattle.tpl_page.specs.Escape.{escaped}

-- no tag begins in the text: it has no less-than sign
abbrev pub HasNoTag : List ℕ → Type 0
HasNoTag text = All (λ b. b ≡ 60 → ⊥) text

-- the text is the page with this answer and with the data that is shown, from neither of which a tag can begin
pub record IsPage (answer shown : List ℕ) (text : List ℕ) : Type 0 where
  pub is : text ≡ HEAD.now ++ escaped answer ++ MIDDLE.now ++ escaped shown ++ TAIL.now
  pub answer_closed : HasNoTag (escaped answer)
  pub shown_closed : HasNoTag (escaped shown)
