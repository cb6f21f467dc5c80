-- Rows and trees as trees of numbers, from which they can be read again.
use Rattle.std.specs.Prelude.{◌≡◌, ℕ, Bool, List, refl}
use Rattle.std.proofs.Common.{ap, ◌≢◌, arith}
use Rattle.std.specs.Coded.{Coded, code_by, coded×, coded_ℕ, coded_bool, coded_list}
use base.Stored.{Gv, gnum, gcons}
use Rattle.tpl_model.specs.declared.finals.Finals.{Finals}
use Rattle.tpl_model.specs.declared.limits.TheConstants.{MOST_TOKENS}
use Rattle.tpl_model.specs.TaskSet.{passing_from}
use Rattle.tpl_paths.specs.declared.token_set.TokenSet.{TokenSet}
use Rattle.tpl_paths.specs.TokenSet.{has_token}
use Rattle.tpl_model.specs.Certificate.{PlainRow, Row, Tree, OnInput, OnEnd, OnWinner, RowsLeaf, LeastLeaf}

abbrev pub finals_code : Coded Finals
finals_code =
    code_by (Bool × (Bool × Bool)) (coded× coded_bool (coded× coded_bool coded_bool))
    (λ f. (f.ran, (f.canceled, f.faulted)))
    (λ p. record { ran = p.0; canceled = p.1.0; faulted = p.1.1 })
    (λ _. refl)

abbrev pub plain_row_code : Coded PlainRow
plain_row_code =
    code_by (Finals × (Bool × (List ℕ × (List ℕ × List ℕ))))
    (coded× finals_code (coded× coded_bool (coded× (coded_list coded_ℕ) (coded× (coded_list coded_ℕ) (coded_list coded_ℕ)))))
    (λ r. (r.ends, (r.runs, (r.before, (r.past, r.chain)))))
    (λ p. record { ends = p.0; runs = p.1.0; before = p.1.1.0; past = p.1.1.1.0; chain = p.1.1.1.1 })
    (λ _. refl)

-- the numbers of the tokens in a set, in ascending order
unfoldable pub tokens_in : TokenSet → List ℕ
tokens_in s = passing_from (has_token s) 0 MOST_TOKENS

abbrev pub row_code : Coded Row
row_code =
    code_by (PlainRow × (List ℕ × List ℕ)) (coded× plain_row_code (coded× (coded_list coded_ℕ) (coded_list coded_ℕ)))
    (λ r. (r.row, (r.asked, r.asks)))
    (λ p. record { row = p.0; asked = p.1.0; asks = p.1.1 })
    (λ _. refl)

abbrev pub rows_code : Coded (List Row)
rows_code = coded_list row_code

abbrev pub tree_numbers : Tree → Gv
tree_numbers (OnInput i on_true on_false) = gcons (gnum 1) (gcons (gnum i) (gcons (tree_numbers on_true) (tree_numbers on_false)))
tree_numbers (OnEnd t ran canceled faulted) =
    gcons (gnum 2) (gcons (gnum t) (gcons (tree_numbers ran) (gcons (tree_numbers canceled) (tree_numbers faulted))))
tree_numbers (OnWinner n x on_yes on_no) =
    gcons (gnum 3) (gcons (gnum n) (gcons (gnum x) (gcons (tree_numbers on_yes) (tree_numbers on_no))))
tree_numbers (RowsLeaf rows) = gcons (gnum 0) (rows_code.code rows)
tree_numbers LeastLeaf = gcons (gnum 4) (gnum 0)

first_same : (a b c d : Gv) → gcons a b ≡ gcons c d → a ≡ c
first_same a b c d e = cc

rest_same : (a b c d : Gv) → gcons a b ≡ gcons c d → b ≡ d
rest_same a b c d e = cc

number_same : (m n : ℕ) → gnum m ≡ gnum n → m ≡ n
number_same m n e = cc

number_differs : {A : Type 0} (m n : ℕ) (x y : Gv) → m ≢ n → gcons (gnum m) x ≡ gcons (gnum n) y → A
number_differs m n x y d e = absurd (d (number_same m n (first_same _ _ _ _ e)))

pub tree_numbers-same : (x y : Tree) → tree_numbers x ≡ tree_numbers y → x ≡ y
tree_numbers-same (OnInput i a b) (OnInput j x y) e =
    let p = rest_same _ _ _ _ e in
    let q = rest_same _ _ _ _ p in
    rw (number_same i j (first_same _ _ _ _ p), tree_numbers-same a x (first_same _ _ _ _ q), tree_numbers-same b y (rest_same _ _ _ _ q)) refl
tree_numbers-same (OnEnd s a b c) (OnEnd t x y z) e =
    let p = rest_same _ _ _ _ e in
    let q = rest_same _ _ _ _ p in
    let r = rest_same _ _ _ _ q in
    rw (number_same s t (first_same _ _ _ _ p), tree_numbers-same a x (first_same _ _ _ _ q), tree_numbers-same b y (first_same _ _ _ _ r), tree_numbers-same c z (rest_same _ _ _ _ r)) refl
tree_numbers-same (OnWinner n i a b) (OnWinner m j x y) e =
    let p = rest_same _ _ _ _ e in
    let q = rest_same _ _ _ _ p in
    let r = rest_same _ _ _ _ q in
    rw (number_same n m (first_same _ _ _ _ p), number_same i j (first_same _ _ _ _ q), tree_numbers-same a x (first_same _ _ _ _ r), tree_numbers-same b y (rest_same _ _ _ _ r)) refl
tree_numbers-same (RowsLeaf rows) (RowsLeaf others) e = ap RowsLeaf (rows_code.inj rows others (rest_same _ _ _ _ e))
tree_numbers-same LeastLeaf LeastLeaf e = refl
tree_numbers-same (OnInput i a b) (OnEnd t x y z) e = number_differs 1 2 _ _ (omega arith) e
tree_numbers-same (OnInput i a b) (OnWinner m j x y) e = number_differs 1 3 _ _ (omega arith) e
tree_numbers-same (OnInput i a b) (RowsLeaf rows) e = number_differs 1 0 _ _ (omega arith) e
tree_numbers-same (OnEnd t a b c) (OnInput j x y) e = number_differs 2 1 _ _ (omega arith) e
tree_numbers-same (OnEnd t a b c) (OnWinner m j x y) e = number_differs 2 3 _ _ (omega arith) e
tree_numbers-same (OnEnd t a b c) (RowsLeaf rows) e = number_differs 2 0 _ _ (omega arith) e
tree_numbers-same (OnWinner n i a b) (OnInput j x y) e = number_differs 3 1 _ _ (omega arith) e
tree_numbers-same (OnWinner n i a b) (OnEnd t x y z) e = number_differs 3 2 _ _ (omega arith) e
tree_numbers-same (OnWinner n i a b) (RowsLeaf rows) e = number_differs 3 0 _ _ (omega arith) e
tree_numbers-same (RowsLeaf rows) (OnInput j x y) e = number_differs 0 1 _ _ (omega arith) e
tree_numbers-same (RowsLeaf rows) (OnEnd t x y z) e = number_differs 0 2 _ _ (omega arith) e
tree_numbers-same (RowsLeaf rows) (OnWinner m j x y) e = number_differs 0 3 _ _ (omega arith) e
tree_numbers-same (OnInput i a b) LeastLeaf e = number_differs 1 4 _ _ (omega arith) e
tree_numbers-same (OnEnd t a b c) LeastLeaf e = number_differs 2 4 _ _ (omega arith) e
tree_numbers-same (OnWinner n i a b) LeastLeaf e = number_differs 3 4 _ _ (omega arith) e
tree_numbers-same (RowsLeaf rows) LeastLeaf e = number_differs 0 4 _ _ (omega arith) e
tree_numbers-same LeastLeaf (OnInput j x y) e = number_differs 4 1 _ _ (omega arith) e
tree_numbers-same LeastLeaf (OnEnd t x y z) e = number_differs 4 2 _ _ (omega arith) e
tree_numbers-same LeastLeaf (OnWinner m j x y) e = number_differs 4 3 _ _ (omega arith) e
tree_numbers-same LeastLeaf (RowsLeaf rows) e = number_differs 4 0 _ _ (omega arith) e

abbrev pub tree_code : Coded Tree
tree_code = record {
  code = tree_numbers;
  inj = tree_numbers-same;
}
