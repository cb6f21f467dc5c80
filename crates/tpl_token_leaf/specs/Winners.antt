-- Splits on who wins WhenAny tasks, in memory.
use Rattle.std.specs.Prelude.{ℕ, ◌&&◌, ◌||◌, not, Bool, true, List, [], ◌∷◌, nat_eq}
use Rattle.tpl_model.specs.Certificate.{same}
use Rattle.tpl_token_leaf.specs.declared.winners.WinnerSplit.{WinnerSplit}

-- y may win m, by the split
abbrev pub leaves_winner : WinnerSplit → ℕ → ℕ → Bool
leaves_winner s m y = not (nat_eq s.task.0 m) || same s.wins (nat_eq s.argument.0 y)

-- y may win m, by each of these splits
abbrev pub all_leave : List WinnerSplit → ℕ → ℕ → Bool
all_leave [] m y = true
all_leave (s ∷ splits) m y = leaves_winner s m y && all_leave splits m y
