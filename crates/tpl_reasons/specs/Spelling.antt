-- Texts in which some characters are written in another way.
use Rattle.std.specs.Prelude.{ℕ, ◌/◌, ◌%◌, List, [], ◌∷◌, ◌++◌, codes, flat_map, if◌then◌else◌}
use Rattle.std.specs.Char.{digit_char, encode_utf8}
use Rattle.std.specs.Str.{chars}
use Rattle.tpl_reasons.specs.Hidden.{is_hidden}

-- the text, each of whose characters is written as the function says
abbrev pub spelled_by : (ℕ → List ℕ) → List ℕ → List ℕ
spelled_by spell text = flat_map spell (chars text)

-- four digits to base 16
abbrev pub four_digits : ℕ → List ℕ
four_digits n = digit_char (n / 0x1000 % 16) ∷ digit_char (n / 0x100 % 16) ∷ digit_char (n / 0x10 % 16) ∷ digit_char (n % 16) ∷ []

-- a character as a terminal shows it: one that it wouldn't show as itself is escaped as in JSON
abbrev pub shown_letter : ℕ → List ℕ
shown_letter c = if is_hidden c then codes "\\u" ++ four_digits c else encode_utf8 c

-- a name as a terminal shows it
abbrev pub said_name : List ℕ → List ℕ
said_name name = spelled_by shown_letter name
