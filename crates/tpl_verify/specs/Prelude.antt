-- The definitions that sources cite, passed on from one place. Declares nothing.
pub use Rattle.tpl_verify.specs.Asking.{IsAsked, IsThere}
pub use Rattle.tpl_verify.specs.AtHand.{IsAtHand}
pub use Rattle.tpl_verify.specs.Beside.{IsVerdictAt}
pub use Rattle.tpl_verify.specs.Filled.{AreFirst, HasForm, IsFilled, IsStartWith, IsTextOf, IsUnseen, IsUnseenOf, start_data, with_run}
pub use Rattle.tpl_verify.specs.Serving.{Refuted, ShowsFailure, Unrefuted}
pub use Rattle.tpl_verify.specs.Verdicts.{EmptyClaimsHold, EndsAnyhow, EndsAsGiven, HasNoLabel, HoldsAlways, IsCertified, IsEmpty, IsHeld, IsJudged, IsNeverKept, IsPlainlyEmpty, IsVerdict, KeepsTo, LacksThrow, HasNoEnd, SaysRanOut, SpeaksOfBegin, SpeaksOfComplete, ThrowsNowhere, under}
pub use Rattle.tpl_verify.specs.Witness.{IsFound, IsSearched, Searches}
