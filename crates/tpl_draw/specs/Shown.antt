-- What the nodes of tasks show.
use Rattle.std.specs.Prelude.{ℕ, Bool, true, false, Option, Some, None, List, [], ◌++◌, codes, slice_index_or}
use Rattle.tpl_model.specs.declared.status.Status.{Status}
use Rattle.tpl_model.specs.declared.status.Status.TheVariants.{Created}
use Rattle.tpl_model.specs.Statuses.{status_name}
use Rattle.tpl_model.specs.Claims.{names}
use Rattle.tpl_draw.specs.declared.language.Language.{Language}
use Rattle.tpl_draw.specs.declared.language.Language.TheVariants.{Mermaid, Dot}
use Rattle.tpl_draw.specs.declared.shown.Failing.{Failing}
use Rattle.tpl_draw.specs.declared.shown.Moment.{Moment}
use Rattle.tpl_draw.specs.declared.shown.Shown.{Shown}
use Rattle.tpl_draw.specs.declared.shown.Shown.TheVariants.{Endings, Run}
use Rattle.tpl_draw.specs.Endings.{no_ends}
use Rattle.tpl_draw.specs.Language.{choose}
use Rattle.tpl_draw.specs.Marks.{paint, painted, status_paint}

-- a claim fails, and says something of the task
abbrev pub is_named : Option Failing → ℕ → Bool
is_named None t = false
is_named (Some failing) t = names failing.says t

-- how a task stands at a moment; Created past the end of the list
abbrev pub stands : Moment → ℕ → Status
stands moment t = slice_index_or moment.statuses.items t Created

-- what begins a further line in a node
abbrev pub line_break : Language → List ℕ
line_break language = choose language (codes "<br/>") (codes "\\n")

-- the last line of a task's node, where a run is shown: the task's status
abbrev pub status_line : Language → Shown → ℕ → List ℕ
status_line language (Endings ends) t = []
status_line language (Run moment) t = line_break language ++ status_name (stands moment t)

-- the class or colour of a task's node
abbrev pub paint_of : Language → Shown → ℕ → List ℕ
paint_of language (Endings ends) t = paint language (slice_index_or ends.items t no_ends)
paint_of language (Run moment) t = status_paint language (stands moment t)

-- a thick border is drawn round a task that the claim names which fails
abbrev pub has_border : Shown → ℕ → Bool
has_border (Endings ends) t = false
has_border (Run moment) t = is_named moment.failing t

-- the border in DOT, which is said among the attributes of a node
abbrev pub border : Language → Bool → List ℕ
border Dot true = codes ", color=red3, penwidth=3"
border language has = []

-- the border in Mermaid, which is said in a line behind that of the node
abbrev pub border_line : Language → Bool → List ℕ → List ℕ
border_line Mermaid true name = codes "  style t_" ++ (name ++ codes " stroke:#c00,stroke-width:4px\n")
border_line language has name = []

-- what stands at the node of a task: its class or colour, and its border
abbrev pub mark : Language → Shown → ℕ → List ℕ
mark language shown t = painted language (paint_of language shown t) ++ border language (has_border shown t)
