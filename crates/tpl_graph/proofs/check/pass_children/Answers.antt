use Rattle.std.proofs.Common.{List, ◌++◌, length, map, ap, ◌∙◌, arith}
use Rattle.std.proofs.lemmas.List.{length-map}
use Rattle.tpl_draft.specs.declared.fault.Why.TheVariants as why
use Rattle.tpl_draft.specs.declared.draft.DraftTask.{DraftTask}
use Rattle.tpl_graph.specs.declared.row.Site.{Site}
use Rattle.tpl_graph.specs.Collected.{all_owned}
use Rattle.tpl_draft.specs.Draft.{Task}
use Rattle.tpl_draft.specs.SeenTasks.{draft_of, task_of}
use Rattle.tpl_graph.proofs.ChildrenLemmas.{starts_are, starters_are, as_many_starts}
use Rattle.tpl_graph.proofs.GraphLaw.{few_tasks_from}
use Rattle.tpl_graph.proofs.check.pass_children.Goals as goal

pub all_starts-requires-clause-names : goal.all_starts-requires-clause-names
all_starts-requires-clause-names c =
    omega (arith, few_tasks_from (draft_of c.args.draft.now) (λ at. c.requires.before why.TooMany at (omega arith)), ap length c.requires.names.2, length-map (draft_of c.args.draft.now).tasks (λ (t : Task). t.name))

pub all_starts-requires-clause-tasks : goal.all_starts-requires-clause-tasks
all_starts-requires-clause-tasks c =
    omega (arith, few_tasks_from (draft_of c.args.draft.now) (λ at. c.requires.before why.TooMany at (omega arith)), ap length c.deref.ensures.value, length-map c.args.draft.now.tasks.items task_of)

pub starters-requires : goal.starters-requires
starters-requires c =
    omega (arith, few_tasks_from (draft_of c.args.draft.now) (λ at. c.requires.before why.TooMany at (omega arith)), ap length c.deref-2.ensures.value, ap length c.deref.ensures.value, length-map c.args.draft.now.tasks.items task_of, as_many_starts c.deref.result.now c.args.declared.now.tasks c.in_ok-starts.starts.items c.in_ok-starts.ensures.starts)

pub pass-requires-clause-test : goal.pass-requires-clause-test
pass-requires-clause-test c = (
  c.requires.names,
  rw c.deref-3.ensures.value (starters_are (draft_of c.args.draft.now) c.in_ok-starts.starts.items c.in_ok-table.table.items (starts_are c.args.draft.now c.args.declared.now.tasks c.deref.result.now c.in_ok-starts.starts.items c.requires.names.2 c.deref.ensures.value c.in_ok-starts.ensures.starts) (rw c.deref-2.ensures.value at c.in_ok-table.ensures.long) (rw c.deref-2.ensures.value at c.in_ok-table.ensures.each)),
)

pub returns-clause-starts : goal.returns-clause-starts
returns-clause-starts c =
    starts_are c.args.draft.now c.args.declared.now.tasks c.deref.result.now c.in_ok-starts.starts.items c.requires.names.2 c.deref.ensures.value c.in_ok-starts.ensures.starts

pub returns-clause-starters : goal.returns-clause-starters
returns-clause-starters c =
    starters_are (draft_of c.args.draft.now) c.in_ok-starts.starts.items c.in_ok-table.table.items (starts_are c.args.draft.now c.args.declared.now.tasks c.deref.result.now c.in_ok-starts.starts.items c.requires.names.2 c.deref.ensures.value c.in_ok-starts.ensures.starts) (rw c.deref-2.ensures.value at c.in_ok-table.ensures.long) (rw c.deref-2.ensures.value at c.in_ok-table.ensures.each)

pub returns-clause-sites : goal.returns-clause-sites
returns-clause-sites c =
    c.in_ok-starts.ensures.sites
    ∙ (ap (λ (l : List Site). l ++ all_owned 0 (map task_of c.deref.result.now)) c.new-sites.ensures.items
    ∙ ap (λ (l : List DraftTask). all_owned 0 (map task_of l)) c.deref.ensures.value)
