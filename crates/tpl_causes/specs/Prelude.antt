-- The definitions that sources cite, passed on from one place. Declares nothing.
pub use Rattle.tpl_causes.specs.Causes.{AreCauses, AreFrom, cause_line, cause_lines, told}
pub use Rattle.tpl_causes.specs.Naming.{named_text}
