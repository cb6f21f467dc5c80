use Rattle.std.proofs.Common.{bit_and, eq-eqb}
use Rattle.std.proofs.lemmas.Bool.{eqb-true}
use Rattle.tpl_paths.proofs.TokenBits.{subset_from, subset_is}
use Rattle.tpl_paths.proofs.token_set.TokenSet.is_subset.Goals as goal

pub returns : goal.returns
returns c =
    let mine = c.args.self.bits in
    let others = c.args.other.bits in (
      λ e k h. subset_from mine others (eqb-true (bit_and mine others) mine e) k h,
      λ h. eq-eqb (bit_and mine others) mine (subset_is mine others h),
    )
