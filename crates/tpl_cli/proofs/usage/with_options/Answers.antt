use Rattle.std.proofs.lemmas.List.{take_more}
use Rattle.clap.specs.Words.{app_of, rule_of}
use Rattle.tpl_cli.proofs.Commands.{step}
use Rattle.tpl_cli.proofs.usage.with_options.Goals as goal

pub loop-option-preserved : goal.loop-option-preserved
loop-option-preserved c = record {
  app = step (app_of c.args.command) (app_of c.loop-option.more) (app_of c.in_ok-more.more) c.args.options.now c.loop-option.option-index _ (rule_of c.arg.result) c.loop-option.invariant.app c.in_ok-more.ensures.app c.arg.ensures.rule (take_more c.args.options.now c.loop-option.option-index _ c.loop-option-test.true);
  own = c.in_ok-more.ensures.own;
}
