-- The text of a picture.
use Rattle.std.specs.Prelude.{ℕ, Bool, true, false, not, ◌&&◌, Option, Some, None, List, [], ◌++◌, length, codes, flat_map, slice_index_or, if◌then◌else◌}
use Rattle.tpl_model.specs.declared.finals.Final.TheVariants.{RanToCompletion, Canceled, Faulted}
use Rattle.tpl_model.specs.Options.{allows, attached_to_parent, deny_child_attach, lazy_cancellation, execute_synchronously}
use Rattle.tpl_model.specs.Graph.{TaskGraph, task, kind, options}
use Rattle.tpl_draft.specs.Named.{Names, Named}
use Rattle.tpl_graph.specs.Rows.{kind_of}
use Rattle.tpl_graph.specs.declared.row.Kind.{Kind}
use Rattle.tpl_draw.specs.declared.language.Language.{Language}
use Rattle.tpl_draw.specs.declared.language.Language.TheVariants.{Mermaid, Dot}
use Rattle.tpl_draw.specs.declared.edge.Tie.{Tie}
use Rattle.tpl_draw.specs.declared.edge.Tie.TheVariants.{After, Argument, Child, Cancel, Own, Link}
use Rattle.tpl_draw.specs.declared.edge.Edge.{Edge}
use Rattle.tpl_draw.specs.declared.shown.Shown.{Shown}
use Rattle.tpl_draw.specs.declared.shown.Shown.TheVariants.{Endings, Run}
use Rattle.tpl_draw.specs.Below.{below}
use Rattle.tpl_draw.specs.Edges.{edges, is_crowded}
use Rattle.tpl_draw.specs.Language.{choose, enclosed}
use Rattle.tpl_draw.specs.Legend.{legend}
use Rattle.tpl_draw.specs.Shapes.{look_of}
use Rattle.tpl_draw.specs.Shown.{border_line, has_border, line_break, mark, status_line}

-- the name of the t-th task; empty past the last one
abbrev pub task_name : Names → ℕ → List ℕ
task_name names t = slice_index_or names.tasks t []

-- the name of the k-th token; empty past the last one
abbrev pub token_name : Names → ℕ → List ℕ
token_name names k = slice_index_or names.tokens k []

-- the node of a token
abbrev pub token_node : Language → List ℕ → List ℕ
token_node Mermaid name = codes "  k_" ++ (name ++ (codes ">\"" ++ (name ++ codes "<br/>token\"]:::token\n")))
token_node Dot name = codes "  k_" ++ (name ++ (codes " [label=\"" ++ (name ++ codes "\\ntoken\", shape=note];\n")))

-- a task's own token as a line of its node, where more than eight tasks have it
abbrev pub token_line_at : Language → Named → Option ℕ → List ℕ
token_line_at language n None = []
token_line_at language n (Some k) =
    if is_crowded n.graph k then line_break language ++ (codes "token " ++ token_name n.names k) else []

-- what stands below the kind of a task at its node: its token and its status
abbrev pub lines_below : Language → Named → Shown → ℕ → List ℕ
lines_below language n shown t = token_line_at language n (task n.graph t).token ++ status_line language shown t

-- the node of a task, whose shape says its kind; with further lines, and a mark
abbrev pub task_node : Language → Kind → (name lines mark : List ℕ) → List ℕ
task_node Mermaid k name lines mark =
    codes "  t_" ++ (name ++ ((look_of k).opening ++ (codes "\"" ++ (name ++ (codes "<br/>" ++ ((look_of k).word ++ (lines ++ (codes "\""
    ++ ((look_of k).closing ++ (mark ++ codes "\n"))))))))))
task_node Dot k name lines mark =
    codes "  t_" ++ (name ++ (codes " [label=\"" ++ (name ++ (codes "\\n" ++ ((look_of k).word ++ (lines ++ (codes "\", shape="
    ++ ((look_of k).shape ++ (mark ++ codes "];\n")))))))))

-- the option word that says after which ends of its antecedent a continuation starts, by whether it may after each:
-- after it ran to completion, was canceled, faulted
abbrev pub start_word : (ran canceled faulted : Bool) → List ℕ
start_word true true true = codes "always"
start_word true true false = codes "NotOnFaulted"
start_word true false true = codes "NotOnCanceled"
start_word true false false = codes "OnlyOnRanToCompletion"
start_word false true true = codes "NotOnRanToCompletion"
start_word false true false = codes "OnlyOnCanceled"
start_word false false true = codes "OnlyOnFaulted"
start_word false false false = codes "never"

-- what is added for a lazy continuation
abbrev pub lazy_word : Bool → List ℕ
lazy_word true = codes " lazy"
lazy_word false = []

-- what is added for a synchronous continuation
abbrev pub synchronous_word : Bool → List ℕ
synchronous_word true = codes " synchronous"
synchronous_word false = []

-- it starts after each end of its antecedent, at once, on any thread
abbrev pub is_plain : ℕ → Bool
is_plain o =
    allows o RanToCompletion && allows o Canceled && allows o Faulted
    && not (lazy_cancellation o) && not (execute_synchronously o)

-- when a continuation starts, by its options
abbrev pub start_text : ℕ → List ℕ
start_text o =
    if is_plain o then []
    else start_word (allows o RanToCompletion) (allows o Canceled) (allows o Faulted)
    ++ lazy_word (lazy_cancellation o)
    ++ synchronous_word (execute_synchronously o)

-- the word at the edge to a child
abbrev pub child_word : Bool → List ℕ
child_word true = codes "attached"
child_word false = codes "detached"

-- what an edge says, by the options of the tasks at its ends
abbrev pub label_of : Tie → (from to : ℕ) → List ℕ
label_of After from to = start_text to
label_of Argument from to = []
label_of Child from to = child_word (attached_to_parent to && not (deny_child_attach from))
label_of Cancel from to = codes "cancels"
label_of Own from to = []
label_of Link from to = codes "linked"

-- what stands at an edge
abbrev pub label : TaskGraph → Edge → List ℕ
label g e = label_of e.tie (options g e.from) (options g e.to)

-- an edge of this sort begins at a token's node, and not at a task's
abbrev pub begins_at_token : Tie → Bool
begins_at_token Own = true
begins_at_token Link = true
begins_at_token tie = false

-- an edge of this sort ends at a token's node, and not at a task's
abbrev pub ends_at_token : Tie → Bool
ends_at_token Cancel = true
ends_at_token Link = true
ends_at_token tie = false

-- what stands before a name in its node: one text for tokens, another for tasks
abbrev pub sort_word : Bool → List ℕ
sort_word true = codes "k_"
sort_word false = codes "t_"

-- the name of a token or a task
abbrev pub name_of : Names → Bool → ℕ → List ℕ
name_of names true k = token_name names k
name_of names false t = task_name names t

-- how the line of an edge is drawn
abbrev pub line_word : Language → Tie → List ℕ
line_word language After = choose language (codes "-->") (codes "solid")
line_word language Argument = choose language (codes "-->") (codes "solid")
line_word language Child = choose language (codes "==>") (codes "bold")
line_word language Cancel = choose language (codes "-.->") (codes "dashed, color=red3")
line_word language Own = choose language (codes "-.->") (codes "dotted, color=gray40")
line_word language Link = choose language (codes "-.->") (codes "dotted, color=gray40")

-- a label, quoted; nothing where there is none
abbrev pub quoted : Language → List ℕ → List ℕ
quoted language label = enclosed (choose language (codes "|\"") (codes ", label=\"")) label (choose language (codes "\"|") (codes "\""))

-- the line of an edge: two nodes, how it is drawn, and what stands at it
abbrev pub edge_text : Language → (from_sort from line label to_sort to : List ℕ) → List ℕ
edge_text Mermaid from_sort from line label to_sort to =
    codes "  " ++ (from_sort ++ (from ++ (codes " " ++ (line ++ (label ++ (codes " " ++ (to_sort ++ (to ++ codes "\n"))))))))
edge_text Dot from_sort from line label to_sort to =
    codes "  " ++ (from_sort ++ (from ++ (codes " -> " ++ (to_sort ++ (to ++ (codes " [style=" ++ (line ++ (label ++ codes "];\n"))))))))

-- the line of an edge of the graph
abbrev pub edge_line : Language → Named → Edge → List ℕ
edge_line language n e =
    edge_text language
    (sort_word (begins_at_token e.tie)) (name_of n.names (begins_at_token e.tie) e.from)
    (line_word language e.tie) (quoted language (label n.graph e))
    (sort_word (ends_at_token e.tie)) (name_of n.names (ends_at_token e.tie) e.to)

-- the line of the k-th token
abbrev pub token_line : Language → Named → ℕ → List ℕ
token_line language n k = token_node language (token_name n.names k)

-- the lines of the t-th task: its node, and in Mermaid its border
abbrev pub task_lines : Language → Named → Shown → ℕ → List ℕ
task_lines language n shown t =
    task_node language (kind_of (kind n.graph t)) (task_name n.names t) (lines_below language n shown t) (mark language shown t)
    ++ border_line language (has_border shown t) (task_name n.names t)

-- before the first node
abbrev pub opening : Language → List ℕ
opening Mermaid = codes "flowchart LR\n"
opening Dot =
    codes "digraph taskgraph {\n"
    ++ codes "  graph [rankdir=LR, ranksep=0.4, nodesep=0.3];\n"
    ++ codes "  node [fontname=\"sans-serif\", fontsize=11, height=0.3, margin=\"0.08,0.04\"];\n"
    ++ codes "  edge [fontname=\"sans-serif\", fontsize=9, arrowsize=0.7];\n"

-- the classes of how tasks may end, or of how they stand in a run
abbrev pub classes : Shown → List ℕ
classes (Endings ends) =
    codes "  classDef token fill:#eee,stroke:#888\n"
    ++ codes "  classDef canceled fill:#f0c848,color:#000\n"
    ++ codes "  classDef faulted fill:#ee7560,color:#000\n"
    ++ codes "  classDef canceled_or_faulted fill:#c596da,color:#000\n"
    ++ codes "  classDef ran_or_canceled fill:#fff8d0,color:#000\n"
    ++ codes "  classDef ran_or_faulted fill:#ffdfd0,color:#000\n"
    ++ codes "  classDef any_end fill:#e0d0ec,color:#000\n"
classes (Run moment) =
    codes "  classDef token fill:#eee,stroke:#888\n"
    ++ codes "  classDef canceled fill:#f0c848,color:#000\n"
    ++ codes "  classDef faulted fill:#ee7560,color:#000\n"
    ++ codes "  classDef ran fill:#d5ebd0,color:#000\n"
    ++ codes "  classDef running fill:#cfe2f7,color:#000\n"

-- after the last edge and the legend
abbrev pub closing : Language → Shown → List ℕ
closing Mermaid shown = classes shown
closing Dot shown = codes "}\n"

-- a node for each token, a node for each task with what is shown of it, a line for each edge, and a legend
abbrev pub picture : Language → Named → Shown → List ℕ
picture language n shown =
    opening language
    ++ below (token_line language n) (length n.graph.tokens)
    ++ below (task_lines language n shown) (length n.graph.tasks)
    ++ flat_map (edge_line language n) (edges n.graph)
    ++ legend language shown
    ++ closing language shown
