-- The definitions that sources cite, passed on from one place. Declares nothing.
pub use Rattle.tpl_series.specs.Told.{HasKept, HasTold, IsHalted, IsNext, IsStopped, TellsAll, TellsNext}
