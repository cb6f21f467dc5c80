use Rattle.std.proofs.Common.{ok_or, rules}
use Rattle.tpl_json.specs.View.{view}
use Rattle.tpl_json.proofs.Reading.{each_yields, yields_or}
use Rattle.tpl_draft.specs.SeenTasks.{task_of}
use Rattle.tpl_parts.specs.Tasks.{task_at}
use Rattle.tpl_reader.specs.declared.fault.Part.TheVariants.{Task}
use Rattle.tpl_reader.proofs.top.tasks_of.Goals as goal

pub returns : goal.returns
returns c = each_yields (λ n d. ok_or (task_at c.args.version d) (Task n)) view task_of c.read_each.ensures (λ n x r k. search (rules, yields_or))
