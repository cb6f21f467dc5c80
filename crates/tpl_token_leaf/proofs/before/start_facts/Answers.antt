use Rattle.std.proofs.Common.{◌||◌, Some, None, ap, ◌∙◌}
use Rattle.tpl_model.proofs.Truths.{true_false}
use Rattle.tpl_paths.specs.Knowledge.{knowledge_of}
use Rattle.tpl_laws.specs.TokenTests.{known_there}
use Rattle.tpl_token_leaf.proofs.Children.{begins_known, child_begins, child_runs, unstarted}
use Rattle.tpl_token_leaf.proofs.before.start_facts.Goals as goal

pub returns-in-None : goal.returns-in-None
returns-in-None c f = true_false (child_runs c.args.leaf.now c.args.task.0 None c.in-None.ensures.parent ∙ c.requires.begins)

pub returns-in-None-known_at_start : goal.returns-in-None-known_at_start
returns-in-None-known_at_start c f =
    let p = c.in-Some.parent.0 in
    true_false (unstarted c.args.leaf.now p c.args.task.0 c.in-None-known_at_start.ensures ∙ (child_runs c.args.leaf.now c.args.task.0 (Some p) c.in-Some.ensures.parent ∙ c.requires.begins))

pub returns-in-Some-known_at_start : goal.returns-in-Some-known_at_start
returns-in-Some-known_at_start c f =
    let p = c.in-Some.parent.0 in
    let known = knowledge_of c.in-Some-known_at_start.known in
    c.with_known.ensures f
    ∙ (ap (λ z. z || known_there known f) (c.settled_before.ensures f)
    ∙ (begins_known c.args.leaf.now p c.args.task.0 known c.in-Some-known_at_start.ensures f ∙ child_begins c.args.leaf.now c.args.task.0 (Some p) c.in-Some.ensures.parent f))
