use Rattle.std.proofs.Common.{◌≡◌, ◌<◌, ◌+◌, ℕ, map}
use Rattle.std.specs.Prelude.{count_by, nat_eq}
use Rattle.tpl_runtime.proofs.closing.are_once.Given as goal

abbrev pub invariant-loop-site : goal.invariant-loop-site
invariant-loop-site g l = (s : ℕ) → s < l.site → count_by (nat_eq s) (map (λ r. r.site.0) l.receipts) + count_by (nat_eq s) (map g.W.Item.site l.items) ≡ 1
