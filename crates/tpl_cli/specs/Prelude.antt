-- The definitions that sources cite, passed on from one place. Declares nothing.
pub use Rattle.tpl_cli.specs.Answering.{AuditsAsPage, Does, RefutesDocument, RunsDocument, ServesBoxes, TellsAs, TracesDocument, VerifiesAs, VerifiesDocument}
pub use Rattle.tpl_cli.specs.Line.{AreThreads, AreTries, Asks, IsAlone, IsForm, IsLineOf, IsWithin, Means, Names}
pub use Rattle.tpl_cli.specs.Number.{deepest, number_name, number_range, usual}
pub use Rattle.tpl_cli.specs.Options.{Finds, IsFlag, IsGiven, IsIfGiven, IsWord, flag, flag_name, language_word, named, numbered, rule_for, style_word}
pub use Rattle.tpl_cli.specs.Usage.{command_of, no_command, taskgraph, with_options, words_of}
