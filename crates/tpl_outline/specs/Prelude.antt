-- The definitions that sources cite, passed on from one place. Declares nothing.
pub use Rattle.tpl_outline.specs.Fates.{IsOpen, KeepsOthers, fate_of, unsettled}
pub use Rattle.tpl_outline.specs.Shown.{IsAnswer}
pub use Rattle.tpl_outline.specs.Stages.{IsStageOf, task_of}
