-- Characters that a terminal doesn't show as themselves.
use Rattle.std.specs.Prelude.{ℕ, Bool, List, not, ◌==◌, ◌&&◌, ◌||◌}
use Rattle.std.specs.Char.{is_control}
use Rattle.std.specs.Int.{is_in_range}
use Rattle.std.specs.Str.{NoCharPasses}

-- a character that turns the direction in which a text is read (the property Bidi_Control of Unicode)
abbrev pub turns : ℕ → Bool
turns c = c == 0x061C || (is_in_range 0x200E 0x200F c || (is_in_range 0x202A 0x202E c || is_in_range 0x2066 0x2069 c))

-- a terminal doesn't show the character as itself: it is a control character and no line break, or turns the direction
abbrev pub is_hidden : ℕ → Bool
is_hidden c = (is_control c && not (c == 10)) || turns c

-- a terminal shows each character of the text as itself
abbrev pub IsShown : List ℕ → Type 0
IsShown text = NoCharPasses is_hidden text
