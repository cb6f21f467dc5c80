use Rattle.std.proofs.Common.{◌≡◌, ap, subst, sym, ◌∙◌, map, List, Option}
use Rattle.clap.specs.Words.{App, Row, Text, is_simple, subcommand_of, subcommand_rows_of, takes}
use Rattle.tpl_cli.specs.Line.{IsLineOf}
use Rattle.tpl_cli.specs.Usage.{taskgraph}
use Rattle.tpl_cli.proofs.Lines.{line_within, one_line}
use Rattle.tpl_cli.proofs.line.line_of.Goals as goal

pub returns-in-Err-clause-taken : goal.returns-in-Err-clause-taken
returns-in-Err-clause-taken c is_taken line named =
    c.fault_of.ensures (c.in-Err.ensures.passes (ap (λ (a : App). takes a (map (λ word. word.now) c.args.words.now)) c.in_ok-taskgraph.ensures ∙ is_taken))

pub returns-in-Some-clause-named : goal.returns-in-Some-clause-named
returns-in-Some-clause-named c =
    let words = map (λ word. word.now) c.args.words.now in
    let is_taskgraph = c.in_ok-taskgraph.ensures in
    let same = c.in-Ok.ensures.matches (ap is_simple is_taskgraph) in
    let stop : subcommand_rows_of c.in-Ok.matches ≡ subcommand_of taskgraph words = same.1 ∙ ap (λ (a : App). subcommand_of a words) is_taskgraph in
    subst (λ (o : Option (Text × List Row)). IsLineOf o c.in-Some.line) stop c.in-Some.ensures

pub returns-in-Some-clause-taken : goal.returns-in-Some-clause-taken
returns-in-Some-clause-taken c is_taken line named =
    let words = map (λ word. word.now) c.args.words.now in
    let is_taskgraph = c.in_ok-taskgraph.ensures in
    let same = c.in-Ok.ensures.matches (ap is_simple is_taskgraph) in
    let stop : subcommand_rows_of c.in-Ok.matches ≡ subcommand_of taskgraph words = same.1 ∙ ap (λ (a : App). subcommand_of a words) is_taskgraph in
    one_line (subcommand_of taskgraph words) c.in-Some.line line (subst (λ (o : Option (Text × List Row)). IsLineOf o c.in-Some.line) stop c.in-Some.ensures) named

pub returns-clause-taken : goal.returns-clause-taken
returns-clause-taken c is_taken line named =
    let words = map (λ word. word.now) c.args.words.now in
    let is_taskgraph = c.in_ok-taskgraph.ensures in
    let same = c.in-Ok.ensures.matches (ap is_simple is_taskgraph) in
    let stop : subcommand_rows_of c.in-Ok.matches ≡ subcommand_of taskgraph words = same.1 ∙ ap (λ (a : App). subcommand_of a words) is_taskgraph in
    absurd (c.in-None.ensures line (subst (λ (o : Option (Text × List Row)). IsLineOf o line) (sym stop) named))

pub returns-in-Some-clause-limit : goal.returns-in-Some-clause-limit
returns-in-Some-clause-limit c = line_within (subcommand_rows_of c.in-Ok.matches) c.in-Some.line c.in-Some.ensures
