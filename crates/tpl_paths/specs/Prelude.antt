-- The definitions that sources cite, passed on from one place. Declares nothing.
pub use Rattle.tpl_paths.specs.Agreement.{AgreeBelow, AgreeingReadings}
pub use Rattle.tpl_paths.specs.Asked.{asked_at, ended, known_by, takes_burdened, takes_unburdened}
pub use Rattle.tpl_paths.specs.Facts.{has_fact}
pub use Rattle.tpl_paths.specs.Gathered.{gathered_of, past, past_all, past_either, past_if}
pub use Rattle.tpl_paths.specs.Knowledge.{knowledge_of, told}
pub use Rattle.tpl_paths.specs.Reached.{reached_of}
pub use Rattle.tpl_paths.specs.Reading.{child_of, end_of, reading_of}
pub use Rattle.tpl_paths.specs.TokenSet.{has_token, no_tokens}
