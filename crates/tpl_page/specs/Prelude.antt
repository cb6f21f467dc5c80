-- The definitions that sources cite, passed on from one place. Declares nothing.
pub use Rattle.tpl_page.specs.Escape.{escaped}
pub use Rattle.tpl_page.specs.Page.{IsPage}
