-- What is settled when tasks begin and have ended, by the rules.
use Rattle.std.proofs.Common.{◌≡◌, ℕ, ◌<◌, Bool, List, [], ap, ◌∙◌, length, slice_index_or, arith}
use Rattle.tpl_model.specs.Members.{mem}
use Rattle.tpl_model.specs.Graph.{TaskGraph, TaskKind}
use Rattle.tpl_model.specs.Valid.{IsGraph}
use Rattle.tpl_model.specs.Certificate.{PlainRow, row, Assumed}
use Rattle.tpl_laws.specs.RowTests.{all_in, before_by, is_below, past_by}
use Rattle.tpl_checker.specs.declared.below.Below.{Below}
use Rattle.tpl_checker.specs.Below.{AreBelow}

-- what the row of a task of this kind has before it is settled when it begins
abbrev pub before_holds : TaskGraph → List PlainRow → ℕ → TaskKind → Bool
before_holds g rows t k = all_in (before_by g rows t k) (row rows t).before

-- what it has past it is when it has ended
abbrev pub past_holds : TaskGraph → Assumed → List PlainRow → ℕ → TaskKind → Bool
past_holds g l rows t k = all_in (past_by g l rows t k) (row rows t).past

-- the set of the tasks below t
pub below_it : (g : TaskGraph) (b : Below) (t : ℕ) (set : List ℕ) → AreBelow g b → IsGraph g → t < length g.tasks → set ≡ slice_index_or b.sets t [] → (x : ℕ) → mem x set ≡ is_below g t x
below_it g b t set are valid lt is x =
    let few : t < 1024 = omega (arith, valid.tasks) in
    ap (mem x) is ∙ are.members t x few
