-- What the receipts of a run say.
use Rattle.std.proofs.Common.{◌≡◌, List, [], ◌∷◌, map, refl, ap}
use Rattle.tpl_items.specs.declared.receipt.Receipt.{Receipt}
use Rattle.tpl_hall.specs.Answers.{shown}

-- the sites of receipts
pub sites_shown : {K : Type 0} (receipts : List (Receipt K)) → map (λ a. a.0) (map shown receipts) ≡ map (λ r. r.site.0) receipts
sites_shown [] = refl
sites_shown (r ∷ receipts) = ap (λ rest. r.site.0 ∷ rest) (sites_shown receipts)
