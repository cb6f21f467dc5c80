-- What the recursion over a body finds is what its paths say.
use Rattle.tpl_model.specs.Recursion.{MayIsRight, MayStartIsRight, MustObserveIsRight}

-- what the recursions over a body find is what its paths say
pub record PathLaws : Type 0 where
  pub may : MayIsRight
  pub may_start : MayStartIsRight
  pub must_observe : MustObserveIsRight
