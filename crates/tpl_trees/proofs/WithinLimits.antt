-- The limits of trees, and the test of them.
use Rattle.std.proofs.Common.{◌≡◌, ◌↔◌, ◌≤◌, ℕ, List, [], ◌∷◌, length, Bool, true, false, nat_le, IsTrue, refl, sym, ◌∙◌}
use Rattle.std.specs.List.{All, list_all}
use Rattle.std.proofs.lemmas.Bool.{and_from, leb-true, le-leb}
use Rattle.std.proofs.lemmas.List.Elements.{All-nil, All-cons, All-head, All-tail}
use Rattle.tpl_model.proofs.Truths.{and_first, and_second, same_tests}
use Rattle.tpl_model.specs.Certificate.{Row, Tree, OnInput, OnEnd, OnWinner, RowsLeaf, LeastLeaf}
use Rattle.tpl_trees.specs.Heights.{height, HasShortChain, HasShortChains, IsWithinLimits, has_short_chain, has_short_chains, is_within_limits}

-- ---- the test is passed just within the limits

rows_from : (rows : List Row) → list_all has_short_chain rows ≡ true → All HasShortChain rows
rows_from [] e = All-nil HasShortChain
rows_from (r ∷ rows) e =
    All-cons HasShortChain r rows (leb-true (length r.row.chain) 16 (and_first (has_short_chain r) (list_all has_short_chain rows) e)) (rows_from rows (and_second (has_short_chain r) (list_all has_short_chain rows) e))

rows_to : (rows : List Row) → All HasShortChain rows → list_all has_short_chain rows ≡ true
rows_to [] all = refl
rows_to (r ∷ rows) all = and_from (has_short_chain r) (list_all has_short_chain rows) (le-leb (length r.row.chain) 16 (All-head HasShortChain r rows all)) (rows_to rows (All-tail HasShortChain r rows all))

chains_from : (t : Tree) → has_short_chains t ≡ true → HasShortChains t
chains_from (OnInput i a b) e = (chains_from a (and_first _ _ e), chains_from b (and_second (has_short_chains a) _ e))
chains_from (OnEnd t a b c) e =
    let rest = and_second (has_short_chains a) _ e in
    (chains_from a (and_first _ _ e), chains_from b (and_first _ _ rest), chains_from c (and_second (has_short_chains b) _ rest))
chains_from (OnWinner n x a b) e = (chains_from a (and_first _ _ e), chains_from b (and_second (has_short_chains a) _ e))
chains_from (RowsLeaf rows) e = rows_from rows e
chains_from LeastLeaf e = tt

chains_to : (t : Tree) → HasShortChains t → has_short_chains t ≡ true
chains_to (OnInput i a b) h = and_from (has_short_chains a) _ (chains_to a h.0) (chains_to b h.1)
chains_to (OnEnd t a b c) h = and_from (has_short_chains a) _ (chains_to a h.0) (and_from (has_short_chains b) _ (chains_to b h.1) (chains_to c h.2))
chains_to (OnWinner n x a b) h = and_from (has_short_chains a) _ (chains_to a h.0) (chains_to b h.1)
chains_to (RowsLeaf rows) h = rows_to rows h
chains_to LeastLeaf h = refl

pub within_from : (t : Tree) → is_within_limits t ≡ true → IsWithinLimits t
within_from t e = (leb-true (height t) 6 (and_first _ _ e), chains_from t (and_second (nat_le (height t) 6) _ e))

pub within_to : (t : Tree) → IsWithinLimits t → is_within_limits t ≡ true
within_to t h = and_from (nat_le (height t) 6) _ (le-leb (height t) 6 h.0) (chains_to t h.1)

-- ---- what a test returned

tested : (b : Bool) (t : Tree) → IsTrue b ↔ IsWithinLimits t → b ≡ is_within_limits t
tested b t h = same_tests b (is_within_limits t) (λ e. within_to t (h.0 e)) (λ e. h.1 (within_from t e))

-- what two tests returned, one after the other
pub then_tested : (a b : Bool) (t : Tree) → IsTrue a ↔ (height t ≤ 6) → IsTrue b ↔ HasShortChains t → a ≡ true → b ≡ is_within_limits t
then_tested a b t low chains passed = tested b t ((λ e. (low.0 passed, chains.0 e)), (λ w. chains.1 w.1))

pub else_tested : (a : Bool) (t : Tree) → IsTrue a ↔ (height t ≤ 6) → a ≡ false → a ≡ is_within_limits t
else_tested a t low failed = failed ∙ tested false t ((λ e. absurd cc), (λ w. sym failed ∙ low.1 w.0))
