-- What the rules with tokens accept besides.
use Rattle.std.specs.Prelude.{◌≡◌, ℕ, Bool, true, List}
use Rattle.tpl_model.specs.declared.finals.Final.{Final}
use Rattle.tpl_model.specs.Graph.{TaskGraph}
use Rattle.tpl_model.specs.declared.ids.TaskId.{TaskId}
use Rattle.tpl_model.specs.declared.claim.Property.{Property}
use Rattle.tpl_model.specs.Claims.{Claim}
use Rattle.tpl_model.specs.Certificate.{PlainRow, Assumed, Closed, Proves}

-- m assumes what l does, and maybe more
pub record AssumesMore (l m : Assumed) : Type 0 where
  pub possible : (i : ℕ) (value : Bool) → m.possible i value ≡ true → l.possible i value ≡ true
  pub quiet : (k : ℕ) → l.quiet k ≡ true → m.quiet k ≡ true
  pub left : (t : ℕ) (f : Final) → m.left t f ≡ true → l.left t f ≡ true
  pub ended : (t : ℕ) (f : Final) → m.ended t f ≡ true → l.ended t f ≡ true
  pub sure : (site : ℕ) → l.sure site ≡ true → m.sure site ≡ true

-- rows that are closed stay so where more is assumed, and prove what they did
abbrev pub MoreIsAssumed : Type 0
MoreIsAssumed =
    (g : TaskGraph) (l m : Assumed) (rows : List PlainRow) → AssumesMore l m → Closed g l rows
    → Closed g m rows × ((p : Property TaskId) → Proves g l rows p → Proves g m rows p)
