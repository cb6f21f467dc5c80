-- What says what the colours of a picture mean.
use Rattle.std.specs.Prelude.{ℕ, Bool, true, false, not, ◌&&◌, Option, Some, None, List, [], ◌∷◌, ◌++◌, codes, decimal, flat_map, if◌then◌else◌}
use Rattle.std.specs.List.{list_any}
use Rattle.tpl_model.specs.declared.finals.Finals.{Finals}
use Rattle.tpl_draw.specs.declared.language.Language.{Language}
use Rattle.tpl_draw.specs.declared.language.Language.TheVariants.{Mermaid, Dot}
use Rattle.tpl_draw.specs.declared.shown.Failing.{Failing}
use Rattle.tpl_draw.specs.declared.shown.Moment.{Moment}
use Rattle.tpl_draw.specs.declared.shown.Shown.{Shown}
use Rattle.tpl_draw.specs.declared.shown.Shown.TheVariants.{Endings, Run}
use Rattle.tpl_draw.specs.Language.{choose, enclosed}
use Rattle.tpl_draw.specs.Marks.{paint}

-- both say the same
abbrev pub agree : Bool → Bool → Bool
agree true b = b
agree false b = not b

-- both sets have the same members
abbrev pub are_same : Finals → Finals → Bool
are_same a b = agree a.ran b.ran && agree a.canceled b.canceled && agree a.faulted b.faulted

-- the sets of endings that have a class or colour, in the order of the legend
abbrev pub painted_endings : List Finals
painted_endings =
    record { ran = false; canceled = true; faulted = false }
    ∷ record { ran = false; canceled = false; faulted = true }
    ∷ record { ran = false; canceled = true; faulted = true }
    ∷ record { ran = true; canceled = true; faulted = false }
    ∷ record { ran = true; canceled = false; faulted = true }
    ∷ record { ran = true; canceled = true; faulted = true }
    ∷ []

-- what a task can do that may end in these ways
abbrev pub ending_words : (ran canceled faulted : Bool) → List ℕ
ending_words true true true = codes "may run to completion, be canceled or fault"
ending_words true true false = codes "may run to completion or be canceled"
ending_words true false true = codes "may run to completion or fault"
ending_words true false false = codes "can only run to completion"
ending_words false true true = codes "can only be canceled or fault"
ending_words false true false = codes "can only be canceled"
ending_words false false true = codes "can only fault"
ending_words false false false = codes "never ends"

-- what the legend says of a class or colour
abbrev pub entry : Language → (paint words : List ℕ) → List ℕ
entry Mermaid paint words = codes "    l_" ++ (paint ++ (codes "[\"" ++ (words ++ (codes "\"]:::" ++ (paint ++ codes "\n")))))
entry Dot paint words = codes "<td bgcolor=\"" ++ (paint ++ (codes "\">" ++ (words ++ codes "</td>")))

-- what the legend says of these ways to end, where a task has just these
abbrev pub ending_entry : Language → List Finals → Finals → List ℕ
ending_entry language ends e =
    if list_any (are_same e) ends
    then entry language (paint language e) (ending_words e.ran e.canceled e.faulted)
    else []

-- that a claim fails, if one does
abbrev pub failing_words : Option Failing → List ℕ
failing_words None = []
failing_words (Some failing) = codes ": claim " ++ (decimal failing.claim ++ codes " fails, which names the tasks with this border")

-- what the legend says of a moment
abbrev pub moment_words : Moment → List ℕ
moment_words moment = codes "the run after event " ++ (decimal moment.place ++ failing_words moment.failing)

-- how that is drawn, by whether a claim fails, which has a border
abbrev pub moment_text : Language → Option Failing → List ℕ → List ℕ
moment_text Mermaid None words = codes "    l_moment[\"" ++ (words ++ codes "\"]\n")
moment_text Mermaid (Some failing) words = codes "    l_moment[\"" ++ (words ++ codes "\"]\n    style l_moment stroke:#c00,stroke-width:4px\n")
moment_text Dot None words = codes "<td border=\"0\">" ++ (words ++ codes "</td>")
moment_text Dot (Some failing) words = codes "<td border=\"3\" color=\"red3\">" ++ (words ++ codes "</td>")

-- what the legend says
abbrev pub entries : Language → Shown → List ℕ
entries language (Endings ends) = flat_map (ending_entry language ends.items) painted_endings
entries language (Run moment) = moment_text language moment.failing (moment_words moment)

-- what stands before all that the legend says
abbrev pub frame_opening : Language → List ℕ
frame_opening language = choose language (codes "  subgraph legend\n") (codes "  graph [fontname=\"sans-serif\", fontsize=9, label=<<table border=\"0\" cellborder=\"1\" cellspacing=\"4\"><tr>")

-- what stands after it
abbrev pub frame_closing : Language → List ℕ
frame_closing language = choose language (codes "  end\n") (codes "</tr></table>>];\n")

-- the frame round what the legend says; nothing where that is nothing
abbrev pub framed : Language → List ℕ → List ℕ
framed language entries = enclosed (frame_opening language) entries (frame_closing language)

-- the legend: what the colours mean that occur, or which moment of a run is shown
abbrev pub legend : Language → Shown → List ℕ
legend language shown = framed language (entries language shown)
