use Rattle.tpl_model.specs.Knowledge.{both, with_tokens}
use Rattle.tpl_paths.specs.Knowledge.{told}
use Rattle.tpl_paths.specs.Reached.{reached_of}
use Rattle.tpl_paths.specs.TokenSet.{has_token}
use Rattle.tpl_paths.proofs.Taking.{both_kinds}
use Rattle.tpl_paths.proofs.asked.find_knowing.Goals as goal

pub returns : goal.returns
returns c =
    both_kinds c.args.asked c.args.outcome (both (with_tokens (has_token c.args.tokens)) (reached_of c.args.reached.now)) c.takes_unburdened-unburdened.result c.takes_burdened-burdened.result (told c.args.found.now) (told c.meet_knowing_if.new.paths) (told c.meet_knowing_if-2.new.paths)
    c.takes_unburdened-unburdened.ensures c.takes_burdened-burdened.ensures c.meet_knowing_if.ensures c.meet_knowing_if-2.ensures
