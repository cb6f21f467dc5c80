-- How the bodies may end in the runs of a leaf, and which children they may start.
use Rattle.std.specs.Prelude.{◌≡◌, ℕ, ◌&&◌, true, List, length, nat_lt}
use Rattle.tpl_model.specs.Members.{mem}
use Rattle.tpl_model.specs.Statements.{starts}
use Rattle.tpl_model.specs.Recursion.{may, none, is_throw, reaches}
use Rattle.tpl_model.specs.Graph.{TaskGraph, body}
use Rattle.tpl_model.specs.Certificate.{PlainRow, Assumed, view}
use Rattle.tpl_laws.specs.RowTests.{is_return, is_acknowledgement}
use Rattle.tpl_checker.specs.declared.bodies.Bodies.{Bodies}

-- the sets are those of the bodies of the first n tasks
pub record AreFirstBodies (g : TaskGraph) (l : Assumed) (rows : List PlainRow) (n : ℕ) (b : Bodies) : Type 0 where
  pub returned : (t : ℕ) → mem t b.returned ≡ (nat_lt t n && may none is_return (view g l rows t) (body g t))
  pub thrown : (t : ℕ) → mem t b.thrown ≡ (nat_lt t n && may none is_throw (view g l rows t) (body g t))
  pub acknowledged : (t : ℕ) → mem t b.acknowledged ≡ (nat_lt t n && may none is_acknowledgement (view g l rows t) (body g t))
  pub started : (p c : ℕ) → mem c (starts (body g p)) ≡ true → mem c b.started ≡ (nat_lt p n && reaches c (view g l rows p) (body g p))

-- the sets are those of all bodies of a graph
abbrev pub AreBodies : TaskGraph → Assumed → List PlainRow → Bodies → Type 0
AreBodies g l rows b = AreFirstBodies g l rows (length g.tasks) b
