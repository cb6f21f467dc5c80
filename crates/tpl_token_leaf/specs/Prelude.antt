-- The definitions that sources cite, passed on from one place. Declares nothing.
pub use Rattle.tpl_token_leaf.specs.Leaf.{IsLeaf, assumed_in, graph_of, row_end, rows_in, leaf_assumed}
pub use Rattle.tpl_token_leaf.specs.LeafRules.{AreDrops, AreLeft, begin_holds, begins_as, each_drop_under, each_end_so, ends_as, ends_by_ways, has_begun_with, has_to_end_as, holds_as, kind_left_in, runs_as}
pub use Rattle.tpl_token_leaf.specs.Links.{AreLinks}
pub use Rattle.tpl_token_leaf.specs.Narrowed.{narrowed_before, narrowed_once, with_all_kept}
pub use Rattle.tpl_token_leaf.specs.Ways.{AreWays, holds_in_all}
pub use Rattle.tpl_token_leaf.specs.Winners.{all_leave, leaves_winner}
