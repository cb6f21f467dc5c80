use Rattle.std.proofs.Common.{◌≡◌, true, take}
use Rattle.std.specs.List.{list_all}
use Rattle.tpl_draft.specs.Refusals.{is_word}
use Rattle.tpl_draft.proofs.ask.is_name.Given as goal

abbrev pub invariant-loop-c : goal.invariant-loop-c
invariant-loop-c l = list_all is_word (take l.c-index l.bytes) ≡ true
