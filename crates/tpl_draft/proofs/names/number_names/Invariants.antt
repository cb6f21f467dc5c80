use Rattle.std.proofs.Common.{map}
use Rattle.std.specs.Prelude.{string_bytes}
use Rattle.tpl_draft.proofs.TwiceLemmas.{NumberedTo}
use Rattle.tpl_draft.proofs.names.number_names.Given as goal

abbrev pub invariant-loop-i : goal.invariant-loop-i
invariant-loop-i l = NumberedTo (map string_bytes l.names) l.numbered l.i
