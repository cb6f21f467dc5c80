use Rattle.std.proofs.Common.{◌≡◌, false, take}
use Rattle.clap.specs.Words.{app_of}
use Rattle.clap.specs.declared.builder.command.Command.TheViews.{out-Command}
use Rattle.tpl_cli.specs.Usage.{with_options}
use Rattle.tpl_cli.proofs.usage.with_options.Given as goal

abbrev pub invariant-loop-option : goal.invariant-loop-option
invariant-loop-option l = record {
  app : app_of l.more ≡ with_options (app_of l.initial.more) (take l.option-index l.options);
  own : (out-Command l.more).has_globals ≡ false;
}
