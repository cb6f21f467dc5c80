-- The definitions that sources cite, passed on from one place. Declares nothing.
pub use Rattle.tpl_trees.specs.Coding.{tokens_in}
pub use Rattle.tpl_trees.specs.Heights.{HasShortChain, HasShortChains, IsWithinLimits, height, is_within_limits}
pub use Rattle.tpl_trees.specs.Sets.{HasTaskSets, HasTokenSets}
pub use Rattle.tpl_trees.specs.Trees.{node_of}
