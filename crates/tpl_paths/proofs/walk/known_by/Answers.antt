use Rattle.std.proofs.Common.{None, ap, ◌∙◌}
use Rattle.tpl_model.specs.Knowledge.{Reached}
use Rattle.tpl_model.specs.Statements.{Statements}
use Rattle.tpl_paths.specs.Gathered.{Gathered, gathered_of, past_all}
use Rattle.tpl_paths.specs.Reached.{reached_of}
use Rattle.tpl_paths.specs.Reading.{reading_of}
use Rattle.tpl_paths.specs.TokenSet.{has_token}
use Rattle.tpl_paths.proofs.GatheredSoFar.{by_walk}
use Rattle.tpl_paths.proofs.walk.known_by.Goals as goal

pub returns : goal.returns
returns c =
    let w = reading_of c.args.reading.now in
    let walked = c.pass_all.new.gathered in
    ap (λ (g : Gathered). g.found) c.find_ended.ensures
    ∙ by_walk c.args.asked w (has_token c.args.tokens) c.args.script.now (gathered_of walked)
    (c.pass_all.ensures
    ∙ (ap (λ (b : Statements). past_all c.args.asked w b (record { reached = reached_of c.begin.result; found = None })) c.body.ensures.body
    ∙ ap (λ (r : Reached). past_all c.args.asked w c.args.script.now (record { reached = r; found = None })) c.begin.ensures))
