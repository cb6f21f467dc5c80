-- The definitions that sources cite, passed on from one place. Declares nothing.
pub use Rattle.tpl_json.specs.Finals.{final_at, final_word, finals_at, no_finals, with_final}
pub use Rattle.tpl_json.specs.Members.{Gives, IsShape, each, has_member, has_only, is_one_of, list_in, list_or_none, members_within, text_in, texts_in}
pub use Rattle.tpl_json.specs.Numbers.{in_range, items_in_range, members_in_range}
pub use Rattle.tpl_json.specs.Passes.{Answers, ReadsEach, Yields, numbered, or_fault}
pub use Rattle.tpl_json.specs.View.{members_from, view}
