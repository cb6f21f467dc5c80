-- Certificate trees as they are spelled: names are texts, lists of bytes.
use Rattle.std.specs.Prelude.{ℕ, List, Bool}
use Rattle.tpl_model.specs.declared.finals.Finals.{Finals}

-- what a leaf says of one task: how it may end, whether it may begin, what is settled when it begins and when it has ended, who reads its exception, and the tokens that are requested when it begins and when it has ended
pub record NamedRow : Type 0 where
  pub ends : Finals
  pub runs : Bool
  pub before : List (List ℕ)
  pub past : List (List ℕ)
  pub chain : List (List ℕ)
  pub asked : List (List ℕ)
  pub asks : List (List ℕ)

pub data NamedTree : Type 0 where
  SplitInput : (input : List ℕ) → (on_true : NamedTree) → (on_false : NamedTree) → NamedTree
  SplitEnd : (task : List ℕ) → (ran : NamedTree) → (canceled : NamedTree) → (faulted : NamedTree) → NamedTree
  SplitWinner : (task : List ℕ) → (argument : List ℕ) → (on_yes : NamedTree) → (on_no : NamedTree) → NamedTree
  Leaf : (rows : List NamedRow) → NamedTree
  Least : NamedTree
