-- The definitions that sources cite, passed on from one place. Declares nothing.
pub use Rattle.tpl_analyser.specs.Found.{IsFound}
pub use Rattle.tpl_analyser.specs.FoundFor.{IsFoundFor}
pub use Rattle.tpl_analyser.specs.Gaps.{IsGap}
pub use Rattle.tpl_analyser.specs.Plans.{HasNoRows, HasSplitsOf, IsPlan, IsPlanIfAny}
pub use Rattle.tpl_analyser.specs.Questions.{IsReady}
pub use Rattle.tpl_analyser.specs.Slim.{AreOfForm, HasAllRows, HasLeavesOf, IsCertificateOf, IsOfFormBy, IsSlimRow, IsUsed}
pub use Rattle.tpl_analyser.specs.Splits.{IsSplitOf}
pub use Rattle.tpl_analyser.specs.TokenFound.{IsFoundWithTokens}
