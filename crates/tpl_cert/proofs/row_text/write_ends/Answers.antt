use Rattle.std.proofs.Common.{◌∙◌, append_assoc, codes, refl}
use Rattle.tpl_cert.specs.Written.{word_if}
use Rattle.tpl_cert.proofs.Tokens.{words_left, all_words}
use Rattle.tpl_cert.proofs.row_text.write_ends.Goals as goal

pub returns : goal.returns
returns c = (
  c.end_array.ensures.room.0 ∙ c.in_ok-write_word-3.ensures.0 ∙ c.in_ok-write_word-2.ensures.0 ∙ c.in_ok-write_word.ensures.0 ∙ c.begin_array.ensures.room.0,
  rw (c.in_ok-end_array.ensures.ok, c.in_ok-write_word-3.ensures.1, c.in_ok-write_word-2.ensures.1, c.in_ok-write_word.ensures.1, c.in_ok-begin_array.ensures.ok) (simp (words_left, append_assoc) (rw (all_words (word_if c.args.ends.faulted (codes "Faulted"))) refl)),
)
