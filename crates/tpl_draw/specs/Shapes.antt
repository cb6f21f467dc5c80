-- What says a task's kind in its node.
use Rattle.std.specs.Prelude.{ℕ, List, codes}
use Rattle.tpl_graph.specs.declared.row.Kind.{Kind}
use Rattle.tpl_graph.specs.declared.row.Kind.TheVariants as kinds

-- a word, what begins and ends the shape in Mermaid, and the shape in DOT
pub record Look : Type 0 where
  pub word : List ℕ
  pub opening : List ℕ
  pub closing : List ℕ
  pub shape : List ℕ

-- how a task of this kind looks
abbrev pub look_of : Kind → Look
look_of kinds.Root = record { word = codes "root"; opening = codes "["; closing = codes "]"; shape = codes "box" }
look_of kinds.Child = record { word = codes "child"; opening = codes "("; closing = codes ")"; shape = codes "Mrecord" }
look_of kinds.Then = record { word = codes "then"; opening = codes "(["; closing = codes "])"; shape = codes "ellipse" }
look_of kinds.All = record { word = codes "all"; opening = codes "{{"; closing = codes "}}"; shape = codes "hexagon" }
look_of kinds.Any = record { word = codes "any"; opening = codes "{"; closing = codes "}"; shape = codes "diamond" }
