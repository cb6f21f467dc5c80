-- Ids by their numbers.
use Rattle.std.proofs.Common.{◌≡◌, ℕ, Option, Some, None, option_map, ap}
use Rattle.tpl_model.specs.declared.ids.TaskId.{TaskId}
use Rattle.tpl_model.specs.declared.ids.TokenId.{TokenId}
use Rattle.tpl_model.specs.declared.ids.InputId.{InputId}
use Rattle.tpl_model.specs.declared.ids.SiteId.{SiteId}
use Rattle.tpl_draft.specs.Ids.{task_number, token_number, input_number, site_number}

pub task_is : (r : Option TaskId) (o : Option ℕ) → option_map task_number r ≡ o → r ≡ option_map (λ t. record { 0 = t }) o
task_is None o e = ap (option_map (λ (t : ℕ). let x : TaskId = record { 0 = t } in x)) e
task_is (Some t) o e = ap (option_map (λ (t : ℕ). let x : TaskId = record { 0 = t } in x)) e

pub token_is : (r : Option TokenId) (o : Option ℕ) → option_map token_number r ≡ o → r ≡ option_map (λ t. record { 0 = t }) o
token_is None o e = ap (option_map (λ (t : ℕ). let x : TokenId = record { 0 = t } in x)) e
token_is (Some t) o e = ap (option_map (λ (t : ℕ). let x : TokenId = record { 0 = t } in x)) e

pub input_is : (r : Option InputId) (o : Option ℕ) → option_map input_number r ≡ o → r ≡ option_map (λ t. record { 0 = t }) o
input_is None o e = ap (option_map (λ (t : ℕ). let x : InputId = record { 0 = t } in x)) e
input_is (Some t) o e = ap (option_map (λ (t : ℕ). let x : InputId = record { 0 = t } in x)) e

pub site_is : (r : Option SiteId) (o : Option ℕ) → option_map site_number r ≡ o → r ≡ option_map (λ t. record { 0 = t }) o
site_is None o e = ap (option_map (λ (t : ℕ). let x : SiteId = record { 0 = t } in x)) e
site_is (Some t) o e = ap (option_map (λ (t : ℕ). let x : SiteId = record { 0 = t } in x)) e
