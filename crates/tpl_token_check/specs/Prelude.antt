-- The definitions that sources cite, passed on from one place. Declares nothing.
pub use Rattle.tpl_token_check.specs.Case.{IsCase, assumed_by, begun_below, ended_below, graph_by}
pub use Rattle.tpl_token_check.specs.Check.{IsCheck, graph_in}
pub use Rattle.tpl_token_check.specs.Faults.{IsAnswer, FailingWithTokens, least_fault}
pub use Rattle.tpl_token_check.specs.Levels.{AreLevels, observes_it}
pub use Rattle.tpl_token_check.specs.Rows.{AreRows, IsRows}
pub use Rattle.tpl_token_check.specs.Steps.{MayStep}
pub use Rattle.tpl_token_check.specs.Unsplit.{AreSettled, HasNoChain, IsUnsplit, graph_under}
pub use Rattle.tpl_token_check.specs.Within.{IsAll}
