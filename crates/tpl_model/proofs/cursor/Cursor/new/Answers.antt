use Rattle.std.proofs.Common.{sym, ◌∙◌}
use Rattle.tpl_model.proofs.Levels.{followed_by-nothing}
use Rattle.tpl_model.proofs.cursor.Cursor.new.Goals as goal

pub returns : goal.returns
returns c = followed_by-nothing _ ∙ (sym c.list-list.ensures ∙ c.body.ensures.body)
