-- Rows of which only some tasks are left.
use Rattle.std.proofs.Common.{◌≡◌, ℕ, true, ◌&&◌, List, sym, ◌∙◌}
use Rattle.tpl_model.proofs.Truths.{and_second}
use Rattle.tpl_model.specs.Members.{mem}
use Rattle.tpl_model.specs.declared.ids.TaskId.{TaskId}
use Rattle.tpl_model.specs.declared.claim.Property.{Property}
use Rattle.tpl_model.specs.Certificate.{Row}
use Rattle.tpl_analyser.specs.Slim.{IsUsed, IsSlimRow}

pub slim_row : (p : Property TaskId) (used : List ℕ) (row slim : Row) → ((x : ℕ) → mem x used ≡ true → IsUsed p x) → ((x : ℕ) → mem x slim.row.before ≡ (mem x row.row.before && mem x used)) → ((x : ℕ) → mem x slim.row.past ≡ (mem x row.row.past && mem x used)) → IsSlimRow p slim
slim_row p used row slim are before past = record {
  before = λ x m. are x (and_second (mem x row.row.before) (mem x used) (sym (before x) ∙ m));
  past = λ x m. are x (and_second (mem x row.row.past) (mem x used) (sym (past x) ∙ m));
}
