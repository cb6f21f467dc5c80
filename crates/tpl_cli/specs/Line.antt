-- What the words of the command line name.
use Rattle.std.specs.Prelude.{◌≡◌, ◌≤◌, ℕ, List, Option, Some, None, IsSomeAnd, codes}
use Rattle.clap.specs.Words.{Row, Text, subcommand_of}
use Rattle.tpl_analyser.specs.declared.form.Form.{Form}
use Rattle.tpl_analyser.specs.declared.form.Form.TheVariants.{Full, Slim, Rows}
use Rattle.tpl_commands.specs.declared.ask.Ask.{Ask}
use Rattle.tpl_commands.specs.declared.ask.Ask.TheVariants.{Check, Analyse, AnalyseIn, Certify, Audit, Draw}
use Rattle.tpl_each.specs.declared.slot.TheConstants.{MOST_JOBS}
use Rattle.tpl_model.specs.declared.limits.TheConstants.{MOST_WORKERS}
use Rattle.tpl_verdicts.specs.declared.style.Style.TheVariants as style
use Rattle.tpl_cli.specs.declared.line.Line as lines
use Rattle.tpl_cli.specs.declared.line.Line.TheVariants as line
use Rattle.tpl_cli.specs.declared.line.Tries.{Tries}
use Rattle.tpl_cli.specs.declared.number.Number.TheVariants as number
use Rattle.tpl_cli.specs.Options.{IsFlag, IsGiven, IsIfGiven, IsLanguage, IsSet, IsStyle}
use Rattle.tpl_cli.specs.Usage.{taskgraph}

-- the form that is asked for; two at once are none
abbrev pub IsForm : List Row → Form → Type 0
IsForm rows Full = (IsSet (codes "slim") rows → ⊥) × (IsSet (codes "rows") rows → ⊥)
IsForm rows Slim = IsSet (codes "slim") rows × (IsSet (codes "rows") rows → ⊥)
IsForm rows Rows = (IsSet (codes "slim") rows → ⊥) × IsSet (codes "rows") rows

-- a search is asked for with at most so many splits on each path, for a certificate of this form
abbrev pub IsSearch : Text → List Row → ℕ → Form → Type 0
IsSearch word rows depth form = (word ≡ codes "analyse") × IsGiven number.Depth rows depth × IsForm rows form

-- with these options the subcommand of this name asks this of a document
abbrev pub Asks : Text → List Row → Ask → Type 0
Asks word rows Check = word ≡ codes "check"
Asks word rows (Analyse depth) = IsSearch word rows depth Full × (IsSet (codes "whole") rows → ⊥)
Asks word rows (AnalyseIn depth form) = IsSearch word rows depth form × (form ≡ Full → ⊥) × (IsSet (codes "whole") rows → ⊥)
Asks word rows (Certify depth form) = IsSearch word rows depth form × IsSet (codes "whole") rows
Asks word rows Audit = (word ≡ codes "audit") × IsStyle rows style.Text
Asks word rows (Draw language) = (word ≡ codes "draw") × IsLanguage rows language

-- one document is answered, and no number of threads is given
abbrev pub IsAlone : List Row → Type 0
IsAlone rows = (IsSet (codes "each") rows → ⊥) × IsIfGiven number.Jobs rows None

-- the document on each line is answered, by so many threads
abbrev pub IsEach : List Row → Option ℕ → Type 0
IsEach rows jobs = IsSet (codes "each") rows × IsIfGiven number.Jobs rows jobs

-- what is tried for a claim
abbrev pub AreTries : List Row → Tries → Type 0
AreTries rows tries = IsGiven number.Runs rows tries.runs × IsGiven number.Seed rows tries.seed

-- with these options the subcommand of this name means this line
abbrev pub Means : Text → List Row → lines.Line → Type 0
Means word rows (line.Serve ask) = Asks word rows ask × IsAlone rows
Means word rows (line.Each ask jobs) = Asks word rows ask × IsEach rows jobs
Means word rows (line.Run workers is_whole) =
    (word ≡ codes "run") × IsGiven number.Workers rows workers × IsFlag (codes "whole") rows is_whole
Means word rows (line.Refute claim tries explains) =
    (word ≡ codes "refute") × IsIfGiven number.Claim rows claim × AreTries rows tries × IsFlag (codes "explain") rows explains
Means word rows (line.Verify depth tries jobs how is_each) =
    (word ≡ codes "verify") × IsGiven number.Depth rows depth × AreTries rows tries
    × IsIfGiven number.Jobs rows jobs × IsStyle rows how × IsFlag (codes "each") rows is_each
Means word rows line.Trace = word ≡ codes "trace"
Means word rows line.AuditPage = (word ≡ codes "audit") × IsStyle rows style.Html × IsAlone rows

-- a subcommand was entered with options for which this line is meant
abbrev pub IsLineOf : Option (Text × List Row) → lines.Line → Type 0
IsLineOf entered l = IsSomeAnd entered (λ (word, rows). Means word rows l)

-- the words name this line
abbrev pub Names : List Text → lines.Line → Type 0
Names words = IsLineOf (subcommand_of taskgraph words)

-- there are as many threads as are asked for, if any are
abbrev pub AreThreads : Option ℕ → Type 0
AreThreads None = Unit {0}
AreThreads (Some jobs) = (1 ≤ jobs) × (jobs ≤ MOST_JOBS)

-- what a line asks for is within the limits of the command
abbrev pub IsWithin : lines.Line → Type 0
IsWithin (line.Each ask jobs) = AreThreads jobs
IsWithin (line.Run workers is_whole) = (1 ≤ workers) × (workers ≤ MOST_WORKERS)
IsWithin (line.Verify depth tries jobs how is_each) = AreThreads jobs
IsWithin l = Unit {0}
