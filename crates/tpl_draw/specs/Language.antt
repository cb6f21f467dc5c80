-- What the languages of pictures share.
use Rattle.std.specs.Prelude.{ℕ, List, [], ◌∷◌, ◌++◌}
use Rattle.tpl_draw.specs.declared.language.Language.{Language}
use Rattle.tpl_draw.specs.declared.language.Language.TheVariants.{Mermaid, Dot}

-- the first text in Mermaid, the second in DOT
abbrev pub choose : Language → (mermaid dot : List ℕ) → List ℕ
choose Mermaid mermaid dot = mermaid
choose Dot mermaid dot = dot

-- a text between two others; nothing where it is empty
abbrev pub enclosed : (opening text closing : List ℕ) → List ℕ
enclosed opening [] closing = []
enclosed opening (c ∷ cs) closing = opening ++ ((c ∷ cs) ++ closing)
