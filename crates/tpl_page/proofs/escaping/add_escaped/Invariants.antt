use Rattle.std.proofs.Common.{◌≡◌, ◌++◌, encode_utf8_all, string_bytes}
use Rattle.tpl_page.specs.Escape.{escaped}
use Rattle.tpl_page.proofs.escaping.add_escaped.Given as goal

abbrev pub invariant-loop-letter : goal.invariant-loop-letter
invariant-loop-letter l = string_bytes l.text ≡ string_bytes l.fn.text ++ escaped (encode_utf8_all l.yielded)
