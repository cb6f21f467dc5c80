-- The first fault of a certificate of rows with tokens, and when there is none.
use Rattle.std.proofs.lemmas.Bool.{ltb-true, lt-ltb}
use Rattle.tpl_model.proofs.Truths.{true_false}
use Rattle.std.proofs.Common.{◌≡◌, ℕ, ◌+◌, ◌<◌, ◌++◌, ◌&&◌, true, false, Option, List, [], ◌∷◌, refl, sym, ◌∙◌, ap, arith, length, nat_eq, nat_lt, length-append}
use Rattle.std.specs.Prelude.{◌↔◌, Decides}
use Rattle.std.specs.List.{AllByRecursion, AllZip}
use Rattle.tpl_model.specs.declared.finals.Final.TheVariants.{RanToCompletion, Canceled, Faulted}
use Rattle.tpl_model.specs.Graph.{TaskGraph, TaskKind, WhenAny, kind, is_task, is_token}
use Rattle.tpl_model.specs.Valid.{IsGraph}
use Rattle.tpl_model.specs.declared.ids.TaskId.{TaskId}
use Rattle.tpl_model.specs.declared.claim.Property.{Property}
use Rattle.tpl_model.specs.Claims.{Claim}
use Rattle.tpl_model.specs.Certificate.{row, IdsOfRows, Row, plain, Tree, OnInput, OnEnd, OnWinner, RowsLeaf, LeastLeaf}
use Rattle.tpl_model.specs.TokenRules.{LeafAssumed, kind_left, may_run, IsClosedWithTokens, narrowed, AllTokens, TokensOfRows, input_split, end_split, winner_split, MayHaveWinner, assumed_with_tokens}
use Rattle.tpl_laws.specs.TokenTrees.{AcceptsTokenTree, AcceptsWithTokens}
use Rattle.tpl_model.specs.declared.fault.Rule.{Rule}
use Rattle.tpl_model.specs.declared.fault.CertFault.TheVariants.{NotClosed}
use Rattle.tpl_laws.specs.PathLaws.{PathLaws}
use Rattle.tpl_laws.specs.RowTests.{implies}
use Rattle.tpl_laws.specs.Verdict.{or_else, LeafFault, rows_fit, leaves}
use Rattle.tpl_laws.specs.TokenTests.{each_begin, each_ending, token_runs_by, token_ends_by, begin_by, end_by, token_chain, token_broken, token_proves, token_first_broken, token_leaf_fault, TokenLeafIsRight}
use Rattle.tpl_laws.specs.TokenVerdict.{token_tree_fault, token_claims_fault, tokens_fit, may_have_winner, token_fits, token_misfit, has_tokens, TokenTreeIsRight, TokenVerdictIsRight}
use Rattle.tpl_laws.specs.FirstFault.{Passes}
use Rattle.tpl_laws.specs.TokenFaults.{token_row_rules, TokenBranch, token_leaves_of, token_leaf_rules, HasTokenShape, token_certificates, IsFirstTokenFault, TokenFaultIsFirst, OneFirstTokenFault}
use Rattle.tpl_laws.proofs.Deciding.{same, both, both3, both4}
use Rattle.tpl_laws.proofs.FaultsDecided.{below_decided, rows_decided}
use Rattle.tpl_laws.proofs.TokensDecided.{runs_decided, ends_decided, begin_rule_decided, end_rule_decided, chain_decided, token_broken_lem, token_proves_lem}
use Rattle.tpl_laws.specs.LeastRows.{least_rows}
use Rattle.tpl_laws.proofs.FirstFault.{past_rule_is, breaks_first, LeafTests, leaves_fault, parts_joined, one_leaf, leaf_clear, leaves_clear, Tests, finds_first, finds_none, first_names}
use Rattle.tpl_laws.proofs.OneFault.{one_rule, Keeps, keeps_or_breaks, AreSound, all_joined, all_parted, one_first}

-- the rules of a leaf
keeps : (g : TaskGraph) (l : LeafAssumed) (rows : List Row) (t : ℕ) → IsClosedWithTokens g l rows t → Keeps (token_row_rules g l rows t)
keeps g l rows t c = (c.runs, c.ends, c.begin, c.end, c.chain)

are_sound : (g : TaskGraph) (p : Property TaskId) (b : TokenBranch) → AreSound (token_leaf_rules g p b)
are_sound g p b = record {
  keeps = λ t rule c. keeps_or_breaks (token_row_rules g b.assumes b.rows t) rule (keeps g b.assumes b.rows t c);
  same = λ t one other. one_rule (token_row_rules g b.assumes b.rows t) one other;
}

-- the leaves of a tree
module _ (g : TaskGraph) (p : Property TaskId) where
  abbrev Passing : TokenBranch → Type 0
  Passing b = Passes g (token_leaf_rules g p b)

  accepted_leaves : (l : LeafAssumed) (tree : Tree) → AcceptsTokenTree g p l tree → AllByRecursion Passing (token_leaves_of g p l tree)
  accepted_leaves l (OnInput i a b) e =
      all_joined Passing (token_leaves_of g p (input_split l i true) a) (token_leaves_of g p (input_split l i false) b) (accepted_leaves (input_split l i true) a e.1) (accepted_leaves (input_split l i false) b e.2)
  accepted_leaves l (OnEnd t a b d) e =
      all_joined Passing (token_leaves_of g p (end_split l t RanToCompletion) a) (token_leaves_of g p (end_split l t Canceled) b ++ token_leaves_of g p (end_split l t Faulted) d) (accepted_leaves (end_split l t RanToCompletion) a e.1)
      (all_joined Passing (token_leaves_of g p (end_split l t Canceled) b) (token_leaves_of g p (end_split l t Faulted) d) (accepted_leaves (end_split l t Canceled) b e.2) (accepted_leaves (end_split l t Faulted) d e.3))
  accepted_leaves l (OnWinner m x a b) e =
      all_joined Passing (token_leaves_of g p (winner_split l m x true) a) (token_leaves_of g p (winner_split l m x false) b) (accepted_leaves (winner_split l m x true) a e.1) (accepted_leaves (winner_split l m x false) b e.2)
  accepted_leaves l (RowsLeaf rows) e = (e.3, tt)
  accepted_leaves l LeastLeaf e = (e, tt)

  accepted_shape : (l : LeafAssumed) (tree : Tree) → AcceptsTokenTree g p l tree → HasTokenShape g tree
  accepted_shape l (OnInput i a b) e = (e.0, accepted_shape (input_split l i true) a e.1, accepted_shape (input_split l i false) b e.2)
  accepted_shape l (OnEnd t a b d) e =
      (e.0, accepted_shape (end_split l t RanToCompletion) a e.1, accepted_shape (end_split l t Canceled) b e.2, accepted_shape (end_split l t Faulted) d e.3)
  accepted_shape l (OnWinner m x a b) e = (e.0, accepted_shape (winner_split l m x true) a e.1, accepted_shape (winner_split l m x false) b e.2)
  accepted_shape l (RowsLeaf rows) e = (e.0, e.1, e.2)
  accepted_shape l LeastLeaf e = tt

  leaves_accepted : (l : LeafAssumed) (tree : Tree) → HasTokenShape g tree → AllByRecursion Passing (token_leaves_of g p l tree) → AcceptsTokenTree g p l tree
  leaves_accepted l (OnInput i a b) s e =
      let q = all_parted Passing (token_leaves_of g p (input_split l i true) a) (token_leaves_of g p (input_split l i false) b) e in
      (s.0, leaves_accepted (input_split l i true) a s.1 q.0, leaves_accepted (input_split l i false) b s.2 q.1)
  leaves_accepted l (OnEnd t a b d) s e =
      let q = all_parted Passing (token_leaves_of g p (end_split l t RanToCompletion) a) (token_leaves_of g p (end_split l t Canceled) b ++ token_leaves_of g p (end_split l t Faulted) d) e in
      let w = all_parted Passing (token_leaves_of g p (end_split l t Canceled) b) (token_leaves_of g p (end_split l t Faulted) d) q.1 in
      (s.0, leaves_accepted (end_split l t RanToCompletion) a s.1 q.0, leaves_accepted (end_split l t Canceled) b s.2 w.0, leaves_accepted (end_split l t Faulted) d s.3 w.1)
  leaves_accepted l (OnWinner m x a b) s e =
      let q = all_parted Passing (token_leaves_of g p (winner_split l m x true) a) (token_leaves_of g p (winner_split l m x false) b) e in
      (s.0, leaves_accepted (winner_split l m x true) a s.1 q.0, leaves_accepted (winner_split l m x false) b s.2 q.1)
  leaves_accepted l (RowsLeaf rows) s e = (s.0, s.1, s.2, e.0)
  leaves_accepted l LeastLeaf s e = e.0

  count_leaves : (l : LeafAssumed) (tree : Tree) → leaves tree ≡ length (token_leaves_of g p l tree)
  count_leaves l (OnInput i a b) =
      let x = count_leaves (input_split l i true) a in
      let y = count_leaves (input_split l i false) b in
      let z = length-append (token_leaves_of g p (input_split l i true) a) (token_leaves_of g p (input_split l i false) b) in
      omega (arith, x, y, z)
  count_leaves l (OnEnd t a b d) =
      let x = count_leaves (end_split l t RanToCompletion) a in
      let y = count_leaves (end_split l t Canceled) b in
      let w = count_leaves (end_split l t Faulted) d in
      let z = length-append (token_leaves_of g p (end_split l t RanToCompletion) a) (token_leaves_of g p (end_split l t Canceled) b ++ token_leaves_of g p (end_split l t Faulted) d) in
      let v = length-append (token_leaves_of g p (end_split l t Canceled) b) (token_leaves_of g p (end_split l t Faulted) d) in
      omega (arith, x, y, z, w, v)
  count_leaves l (OnWinner m w a b) =
      let x = count_leaves (winner_split l m w true) a in
      let y = count_leaves (winner_split l m w false) b in
      let z = length-append (token_leaves_of g p (winner_split l m w true) a) (token_leaves_of g p (winner_split l m w false) b) in
      omega (arith, x, y, z)
  count_leaves l (RowsLeaf rows) = refl
  count_leaves l LeastLeaf = refl

  abbrev fault_of : TokenBranch → Option LeafFault
  fault_of b = token_leaf_fault g p b.assumes b.rows

  tree_is : (c : ℕ) (l : LeafAssumed) (n : ℕ) (tree : Tree) → token_tree_fault g p c l n tree ≡ leaves_fault fault_of c n (token_leaves_of g p l tree)
  tree_is c l n (OnInput i a b) =
      parts_joined fault_of c n (n + leaves a) (token_leaves_of g p (input_split l i true) a) (token_leaves_of g p (input_split l i false) b) (token_tree_fault g p c (input_split l i true) n a) (token_tree_fault g p c (input_split l i false) (n + leaves a) b)
      (ap (λ z. n + z) (count_leaves (input_split l i true) a)) (tree_is c (input_split l i true) n a) (tree_is c (input_split l i false) (n + leaves a) b)
  tree_is c l n (OnEnd t a b d) =
      parts_joined fault_of c n (n + leaves a) (token_leaves_of g p (end_split l t RanToCompletion) a) (token_leaves_of g p (end_split l t Canceled) b ++ token_leaves_of g p (end_split l t Faulted) d) (token_tree_fault g p c (end_split l t RanToCompletion) n a)
      (or_else (token_tree_fault g p c (end_split l t Canceled) (n + leaves a) b) (token_tree_fault g p c (end_split l t Faulted) (n + leaves a + leaves b) d))
      (ap (λ z. n + z) (count_leaves (end_split l t RanToCompletion) a)) (tree_is c (end_split l t RanToCompletion) n a)
      (parts_joined fault_of c (n + leaves a) (n + leaves a + leaves b) (token_leaves_of g p (end_split l t Canceled) b) (token_leaves_of g p (end_split l t Faulted) d) (token_tree_fault g p c (end_split l t Canceled) (n + leaves a) b) (token_tree_fault g p c (end_split l t Faulted) (n + leaves a + leaves b) d)
      (ap (λ z. n + leaves a + z) (count_leaves (end_split l t Canceled) b)) (tree_is c (end_split l t Canceled) (n + leaves a) b) (tree_is c (end_split l t Faulted) (n + leaves a + leaves b) d))
  tree_is c l n (OnWinner m x a b) =
      parts_joined fault_of c n (n + leaves a) (token_leaves_of g p (winner_split l m x true) a) (token_leaves_of g p (winner_split l m x false) b) (token_tree_fault g p c (winner_split l m x true) n a) (token_tree_fault g p c (winner_split l m x false) (n + leaves a) b)
      (ap (λ z. n + z) (count_leaves (winner_split l m x true) a)) (tree_is c (winner_split l m x true) n a) (tree_is c (winner_split l m x false) (n + leaves a) b)
  tree_is c l n (RowsLeaf rows) = one_leaf fault_of c n (record { assumes = narrowed g l; rows = rows })
  tree_is c l n LeastLeaf = one_leaf fault_of c n (record { assumes = narrowed g l; rows = least_rows g (narrowed g l) p })

-- shapes
tokens_decided : (g : TaskGraph) (ks : List ℕ) → Decides (has_tokens g ks) (AllTokens g ks)
tokens_decided g [] = (λ e. tt, λ u. refl)
tokens_decided g (k ∷ ks) = both (is_token g k) (AllTokens g ks) (nat_lt k (length g.tokens)) (has_tokens g ks) (ltb-true k (length g.tokens), lt-ltb k (length g.tokens)) (tokens_decided g ks)

row_tokens : (g : TaskGraph) (r : Row) (rows : List Row) → Decides (tokens_fit g rows) (TokensOfRows g rows) → Decides (tokens_fit g (r ∷ rows)) ((AllTokens g r.asked × AllTokens g r.asks) × TokensOfRows g rows)
row_tokens g r rows d =
    both (AllTokens g r.asked × AllTokens g r.asks) (TokensOfRows g rows) (has_tokens g r.asked && has_tokens g r.asks) (tokens_fit g rows)
    (both (AllTokens g r.asked) (AllTokens g r.asks) (has_tokens g r.asked) (has_tokens g r.asks) (tokens_decided g r.asked) (tokens_decided g r.asks))
    d

pub tokens_of_rows : (g : TaskGraph) (rows : List Row) → Decides (tokens_fit g rows) (TokensOfRows g rows)
tokens_of_rows g [] = (λ e. tt, λ u. refl)
tokens_of_rows g (r ∷ rows) = (
  λ e. let q = (row_tokens g r rows (tokens_of_rows g rows)).0 e in (q.0.0, q.0.1, q.1),
  λ e. (row_tokens g r rows (tokens_of_rows g rows)).1 ((e.0, e.1), e.2),
)

pub winner_decided : (k : TaskKind) (x : ℕ) → Decides (may_have_winner k x) (MayHaveWinner k x)
winner_decided (WhenAny args) x = (λ e. e, λ e. e)
winner_decided k x = (λ e. true_false (sym e), λ f. absurd f)

module _ (paths : PathLaws) (g : TaskGraph) (valid : IsGraph g) where
  shape_decided : (tree : Tree) → Decides (token_fits g tree) (HasTokenShape g tree)
  shape_decided (OnInput i a b) =
      both3 (i < g.inputs) (HasTokenShape g a) (HasTokenShape g b) (nat_lt i g.inputs) (token_fits g a) (token_fits g b) (below_decided i g.inputs) (shape_decided a) (shape_decided b)
  shape_decided (OnEnd t a b d) =
      both4 (is_task g t) (HasTokenShape g a) (HasTokenShape g b) (HasTokenShape g d) (nat_lt t (length g.tasks)) (token_fits g a) (token_fits g b) (token_fits g d) (below_decided t (length g.tasks)) (shape_decided a) (shape_decided b) (shape_decided d)
  shape_decided (OnWinner m x a b) =
      both3 (MayHaveWinner (kind g m) x) (HasTokenShape g a) (HasTokenShape g b) (may_have_winner (kind g m) x) (token_fits g a) (token_fits g b) (winner_decided (kind g m) x) (shape_decided a) (shape_decided b)
  shape_decided (RowsLeaf rows) =
      both3 (length rows ≡ length g.tasks) (IdsOfRows g (plain rows)) (TokensOfRows g rows) (nat_eq (length rows) (length g.tasks)) (rows_fit g (plain rows)) (tokens_fit g rows)
      (same (length rows) (length g.tasks)) (rows_decided g (plain rows)) (tokens_of_rows g rows)
  shape_decided LeastLeaf = (λ e. tt, λ u. refl)

  abbrev leaf_tests : (p : Property TaskId) (b : TokenBranch) → LeafTests g (token_leaf_rules g p b)
  leaf_tests p b = record {
    broken = token_broken g b.assumes b.rows;
    closed = λ t. token_broken_lem g b.assumes b.rows t valid paths;
    is_broken = λ t.
        breaks_first (token_row_rules g b.assumes b.rows t) (token_runs_by g b.assumes b.rows t (kind g t)) (token_ends_by g b.assumes b.rows t (kind_left g b.assumes t))
        (implies (may_run b.rows t) (each_begin b.rows t (begin_by g b.assumes b.rows t (kind g t)))) (each_ending b.rows t (end_by g b.assumes b.rows t (kind_left g b.assumes t))) (token_chain g b.assumes t (row (plain b.rows) t).chain)
        (runs_decided g b.assumes b.rows t valid (kind g t)) (ends_decided g b.assumes b.rows t valid paths (kind_left g b.assumes t)) (begin_rule_decided g b.assumes b.rows t valid) (end_rule_decided g b.assumes b.rows t valid) (chain_decided g b.assumes b.rows t valid paths (row (plain b.rows) t).chain)
        (past_rule_is (kind g t));
    first = token_first_broken g b.assumes b.rows;
    first_of_none = λ t. refl;
    first_of_more = λ t n. refl;
    proves = token_proves g b.assumes b.rows p;
    proved = token_proves_lem paths g b.assumes b.rows p;
  }

  abbrev tests : Tests g (token_certificates g)
  tests = record {
    fits = token_fits g;
    shaped = shape_decided;
    misfit = token_misfit g;
    misfit_of_none = λ n. refl;
    misfit_of_tree = λ n tree trees. refl;
    misfit_of_claim = λ n claim claims. refl;
    misfit_of_both = λ n claim claims tree trees. refl;
    leaf = leaf_tests;
    tree = λ n claim tree. token_tree_fault g claim.body n (assumed_with_tokens g claim) 1 tree;
    tree_is = λ n claim tree. tree_is g claim.body n (assumed_with_tokens g claim) 1 tree;
    claims = token_claims_fault g;
    claims_of_none = λ n. refl;
    claims_of_more = λ n claim more tree trees. refl;
    accepts = λ claim tree. leaves_accepted g claim.body (assumed_with_tokens g claim) tree;
    accepted = λ claim tree a. (accepted_shape g claim.body (assumed_with_tokens g claim) tree a, accepted_leaves g claim.body (assumed_with_tokens g claim) tree a);
  }

-- there is none in a leaf, in a tree and in a certificate just where they are accepted
pub token_leaf_lem : PathLaws → TokenLeafIsRight
token_leaf_lem paths g p l rows valid = let b : TokenBranch = record { assumes = l; rows = rows } in leaf_clear g (token_leaf_rules g p b) (leaf_tests paths g valid p b)

pub token_tree_lem : PathLaws → TokenTreeIsRight
token_tree_lem paths g p claim l leaf tree valid =
    let shape = shape_decided paths g valid tree in
    let clears = leaves_clear g (token_leaf_rules g p) (leaf_tests paths g valid p) claim leaf (token_leaves_of g p l tree) in
    let same = tree_is g p claim l leaf tree in (
      λ e. leaves_accepted g p l tree (shape.0 e.0) (clears.0 (sym same ∙ e.1)),
      λ a. (shape.1 (accepted_shape g p l tree a), same ∙ clears.1 (accepted_leaves g p l tree a)),
    )

all_accepted : (g : TaskGraph) (claims : List Claim) (trees : List Tree) → AllZip (λ claim tree. AcceptsTokenTree g claim.body (assumed_with_tokens g claim) tree) claims trees ↔ AcceptsWithTokens g claims trees
all_accepted g [] [] = (λ a. a, λ a. a)
all_accepted g [] (tree ∷ trees) = (λ a. a, λ a. a)
all_accepted g (claim ∷ claims) [] = (λ a. a, λ a. a)
all_accepted g (claim ∷ claims) (tree ∷ trees) = let rest = all_accepted g claims trees in (λ a. (a.0, rest.0 a.1), λ a. (a.0, rest.1 a.1))

pub token_verdict_lem : PathLaws → TokenVerdictIsRight
token_verdict_lem paths g claims trees valid =
    let none = finds_none g (token_certificates g) (tests paths g valid) claims trees in
    let all = all_accepted g claims trees in
    (λ e. all.0 (none.0 e), λ a. none.1 (all.1 a))

pub token_first_fault : PathLaws → TokenFaultIsFirst
token_first_fault paths g claims trees fault valid e = finds_first g (token_certificates g) (tests paths g valid) claims trees fault e

pub one_token_fault : OneFirstTokenFault
one_token_fault g claims trees one other a b =
    one_first g (token_certificates g) (are_sound g) (λ claim tree. accepted_leaves g claim.body (assumed_with_tokens g claim) tree) claims trees one other a b

-- the first fault names a task of the graph
pub token_names_task : (g : TaskGraph) (claims : List Claim) (trees : List Tree) (claim leaf : ℕ) (t : TaskId) (rule : Rule) → IsFirstTokenFault g claims trees (NotClosed claim leaf t rule) → is_task g t.0
token_names_task g claims trees claim leaf t rule f = first_names g (token_certificates g) claims trees claim leaf t rule f
