use Rattle.std.proofs.Common.{◌≡◌, map, take}
use Rattle.tpl_verdicts.specs.Words.{word_of}
use Rattle.tpl_verdicts.proofs.word.words_of.Given as goal

abbrev pub invariant-loop-verdict : goal.invariant-loop-verdict
invariant-loop-verdict l = l.words.items ≡ map word_of (take l.verdict-index l.verdicts)
