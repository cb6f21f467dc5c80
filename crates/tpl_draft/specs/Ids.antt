-- The numbers of ids.
use Rattle.std.specs.Prelude.{ℕ}
use Rattle.tpl_model.specs.declared.ids.TaskId.{TaskId}
use Rattle.tpl_model.specs.declared.ids.TokenId.{TokenId}
use Rattle.tpl_model.specs.declared.ids.InputId.{InputId}
use Rattle.tpl_model.specs.declared.ids.SiteId.{SiteId}

-- the number of a task
abbrev pub task_number : TaskId → ℕ
task_number t = t.0

-- the number of a token
abbrev pub token_number : TokenId → ℕ
token_number k = k.0

-- the number of an input
abbrev pub input_number : InputId → ℕ
input_number i = i.0

-- the number of a site
abbrev pub site_number : SiteId → ℕ
site_number s = s.0
