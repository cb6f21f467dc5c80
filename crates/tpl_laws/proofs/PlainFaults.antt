-- The first fault of a certificate by the rules without tokens, and when there is none.
use Rattle.tpl_model.specs.declared.rule_set.RuleSet.TheVariants.{WithoutTokens}
use Rattle.std.proofs.Common.{◌≡◌, ℕ, ◌+◌, ◌<◌, ◌++◌, ◌&&◌, Bool, true, false, Option, List, [], ◌∷◌, refl, sym, ap, arith, length, nat_eq, nat_lt, length-append}
use Rattle.std.specs.Prelude.{◌↔◌, Decides}
use Rattle.tpl_model.proofs.Truths.{true_false}
use Rattle.std.specs.List.{AllByRecursion, AllZip}
use Rattle.tpl_model.specs.declared.finals.Final.TheVariants.{RanToCompletion, Canceled, Faulted}
use Rattle.tpl_model.specs.Graph.{TaskGraph, kind, is_task}
use Rattle.tpl_model.specs.Valid.{IsGraph}
use Rattle.tpl_model.specs.declared.ids.TaskId.{TaskId}
use Rattle.tpl_model.specs.declared.claim.Property.{Property}
use Rattle.tpl_model.specs.Claims.{Claim}
use Rattle.tpl_model.specs.Certificate.{PlainRow, Row, plain, ArePlain, Tree, OnInput, OnEnd, OnWinner, RowsLeaf, LeastLeaf, Assumed, assumed_for, with_input, with_end, IsClosed, IdsOfRows, AcceptsTree, Accepts}
use Rattle.tpl_model.specs.declared.fault.Rule.{Rule}
use Rattle.tpl_model.specs.declared.fault.CertFault.TheVariants.{NotClosed}
use Rattle.tpl_laws.specs.Decided.{VerdictIsRight}
use Rattle.tpl_laws.specs.PathLaws.{PathLaws}
use Rattle.tpl_laws.specs.RowTests.{is_none, runs, ends, before, past, chain}
use Rattle.tpl_laws.specs.ClaimTests.{proves}
use Rattle.tpl_laws.specs.Verdict.{or_else, broken, first_broken, LeafFault, leaf_fault, leaves, tree_fault, claims_fault, rows_fit, are_plain, fits, misfit}
use Rattle.tpl_laws.specs.FirstFault.{Passes}
use Rattle.tpl_laws.specs.Faults.{row_rules, Branch, leaves_of, leaf_rules, HasShape, certificates, IsFirstFault, FaultIsFirst, OneFirstFault}
use Rattle.tpl_laws.proofs.Deciding.{same, both, both3, both4}
use Rattle.tpl_laws.proofs.RulesDecided.{runs_lem, ends_lem, before_lem, past_lem, chain_lem}
use Rattle.tpl_laws.proofs.ClaimsDecided.{proves_lem}
use Rattle.tpl_laws.proofs.FaultsDecided.{broken_lem, below_decided, rows_decided}
use Rattle.tpl_laws.proofs.FirstFault.{past_rule_is, breaks_first, LeafTests, leaves_fault, parts_joined, one_leaf, Tests, finds_first, finds_none, first_names}
use Rattle.tpl_laws.proofs.OneFault.{one_rule, Keeps, keeps_or_breaks, AreSound, all_joined, all_parted, one_first}

-- the rules of a leaf
keeps : (g : TaskGraph) (l : Assumed) (rows : List PlainRow) (t : ℕ) → IsClosed g l rows t → Keeps (row_rules g l rows t)
keeps g l rows t c = (c.runs, c.ends, c.before, c.past, c.chain)

are_sound : (g : TaskGraph) (p : Property TaskId) (b : Branch) → AreSound (leaf_rules g p b)
are_sound g p b = record {
  keeps = λ t rule c. keeps_or_breaks (row_rules g b.assumes b.rows t) rule (keeps g b.assumes b.rows t c);
  same = λ t one other. one_rule (row_rules g b.assumes b.rows t) one other;
}

-- the leaves of a tree
module _ (g : TaskGraph) (p : Property TaskId) where
  abbrev Passing : Branch → Type 0
  Passing b = Passes g (leaf_rules g p b)

  accepted_leaves : (l : Assumed) (tree : Tree) → AcceptsTree g p l tree → AllByRecursion Passing (leaves_of l tree)
  accepted_leaves l (OnInput i a b) e =
      all_joined Passing (leaves_of (with_input l i true) a) (leaves_of (with_input l i false) b) (accepted_leaves (with_input l i true) a e.1) (accepted_leaves (with_input l i false) b e.2)
  accepted_leaves l (OnEnd t a b d) e =
      all_joined Passing (leaves_of (with_end l t RanToCompletion) a) (leaves_of (with_end l t Canceled) b ++ leaves_of (with_end l t Faulted) d) (accepted_leaves (with_end l t RanToCompletion) a e.1)
      (all_joined Passing (leaves_of (with_end l t Canceled) b) (leaves_of (with_end l t Faulted) d) (accepted_leaves (with_end l t Canceled) b e.2) (accepted_leaves (with_end l t Faulted) d e.3))
  accepted_leaves l (OnWinner n x a b) e = absurd e
  accepted_leaves l (RowsLeaf rows) e = ((e.2, e.3), tt)
  accepted_leaves l LeastLeaf e = absurd e

  accepted_shape : (l : Assumed) (tree : Tree) → AcceptsTree g p l tree → HasShape g tree
  accepted_shape l (OnInput i a b) e = (e.0, accepted_shape (with_input l i true) a e.1, accepted_shape (with_input l i false) b e.2)
  accepted_shape l (OnEnd t a b d) e =
      (e.0, accepted_shape (with_end l t RanToCompletion) a e.1, accepted_shape (with_end l t Canceled) b e.2, accepted_shape (with_end l t Faulted) d e.3)
  accepted_shape l (OnWinner n x a b) e = absurd e
  accepted_shape l (RowsLeaf rows) e = (e.0, e.1, e.4)
  accepted_shape l LeastLeaf e = absurd e

  leaves_accepted : (l : Assumed) (tree : Tree) → HasShape g tree → AllByRecursion Passing (leaves_of l tree) → AcceptsTree g p l tree
  leaves_accepted l (OnInput i a b) s e =
      let q = all_parted Passing (leaves_of (with_input l i true) a) (leaves_of (with_input l i false) b) e in
      (s.0, leaves_accepted (with_input l i true) a s.1 q.0, leaves_accepted (with_input l i false) b s.2 q.1)
  leaves_accepted l (OnEnd t a b d) s e =
      let q = all_parted Passing (leaves_of (with_end l t RanToCompletion) a) (leaves_of (with_end l t Canceled) b ++ leaves_of (with_end l t Faulted) d) e in
      let w = all_parted Passing (leaves_of (with_end l t Canceled) b) (leaves_of (with_end l t Faulted) d) q.1 in
      (s.0, leaves_accepted (with_end l t RanToCompletion) a s.1 q.0, leaves_accepted (with_end l t Canceled) b s.2 w.0, leaves_accepted (with_end l t Faulted) d s.3 w.1)
  leaves_accepted l (OnWinner n x a b) s e = absurd s
  leaves_accepted l (RowsLeaf rows) s e = (s.0, s.1, e.0.0, e.0.1, s.2)
  leaves_accepted l LeastLeaf s e = absurd s

  count_leaves : (l : Assumed) (tree : Tree) → leaves tree ≡ length (leaves_of l tree)
  count_leaves l (OnInput i a b) =
      let x = count_leaves (with_input l i true) a in
      let y = count_leaves (with_input l i false) b in
      let z = length-append (leaves_of (with_input l i true) a) (leaves_of (with_input l i false) b) in
      omega (arith, x, y, z)
  count_leaves l (OnEnd t a b d) =
      let x = count_leaves (with_end l t RanToCompletion) a in
      let y = count_leaves (with_end l t Canceled) b in
      let w = count_leaves (with_end l t Faulted) d in
      let z = length-append (leaves_of (with_end l t RanToCompletion) a) (leaves_of (with_end l t Canceled) b ++ leaves_of (with_end l t Faulted) d) in
      let v = length-append (leaves_of (with_end l t Canceled) b) (leaves_of (with_end l t Faulted) d) in
      omega (arith, x, y, z, w, v)
  count_leaves l (OnWinner n x a b) =
      let u = count_leaves l a in
      let w = count_leaves l b in
      let z = length-append (leaves_of l a) (leaves_of l b) in
      omega (arith, u, w, z)
  count_leaves l (RowsLeaf rows) = refl
  count_leaves l LeastLeaf = refl

  abbrev fault_of : Branch → Option LeafFault
  fault_of b = leaf_fault g p b.assumes b.rows

  tree_is : (c : ℕ) (l : Assumed) (n : ℕ) (tree : Tree) → tree_fault g p c l n tree ≡ leaves_fault fault_of c n (leaves_of l tree)
  tree_is c l n (OnInput i a b) =
      parts_joined fault_of c n (n + leaves a) (leaves_of (with_input l i true) a) (leaves_of (with_input l i false) b) (tree_fault g p c (with_input l i true) n a) (tree_fault g p c (with_input l i false) (n + leaves a) b)
      (ap (λ z. n + z) (count_leaves (with_input l i true) a)) (tree_is c (with_input l i true) n a) (tree_is c (with_input l i false) (n + leaves a) b)
  tree_is c l n (OnEnd t a b d) =
      parts_joined fault_of c n (n + leaves a) (leaves_of (with_end l t RanToCompletion) a) (leaves_of (with_end l t Canceled) b ++ leaves_of (with_end l t Faulted) d) (tree_fault g p c (with_end l t RanToCompletion) n a)
      (or_else (tree_fault g p c (with_end l t Canceled) (n + leaves a) b) (tree_fault g p c (with_end l t Faulted) (n + leaves a + leaves b) d))
      (ap (λ z. n + z) (count_leaves (with_end l t RanToCompletion) a)) (tree_is c (with_end l t RanToCompletion) n a)
      (parts_joined fault_of c (n + leaves a) (n + leaves a + leaves b) (leaves_of (with_end l t Canceled) b) (leaves_of (with_end l t Faulted) d) (tree_fault g p c (with_end l t Canceled) (n + leaves a) b) (tree_fault g p c (with_end l t Faulted) (n + leaves a + leaves b) d)
      (ap (λ z. n + leaves a + z) (count_leaves (with_end l t Canceled) b)) (tree_is c (with_end l t Canceled) (n + leaves a) b) (tree_is c (with_end l t Faulted) (n + leaves a + leaves b) d))
  tree_is c l n (OnWinner m x a b) =
      parts_joined fault_of c n (n + leaves a) (leaves_of l a) (leaves_of l b) (tree_fault g p c l n a) (tree_fault g p c l (n + leaves a) b)
      (ap (λ z. n + z) (count_leaves l a)) (tree_is c l n a) (tree_is c l (n + leaves a) b)
  tree_is c l n (RowsLeaf rows) = one_leaf fault_of c n (record { assumes = l; rows = plain rows })
  tree_is c l n LeastLeaf = one_leaf fault_of c n (record { assumes = l; rows = [] })

-- rows say nothing of tokens
pub none_decided : (xs : List ℕ) → Decides (is_none xs) (xs ≡ [])
none_decided [] = (λ e. refl, λ n. refl)
none_decided (x ∷ xs) = (λ e. true_false (sym e), λ n. absurd (cc))

pub plain_decided : (rows : List Row) → Decides (are_plain rows) (ArePlain rows)
plain_decided [] = (λ e. tt, λ u. refl)
plain_decided (r ∷ rows) = (
  λ e. let q = (row_plain r rows (plain_decided rows)).0 e in (q.0.0, q.0.1, q.1),
  λ n. (row_plain r rows (plain_decided rows)).1 ((n.0, n.1), n.2),
)
  where
    row_plain : (r : Row) (rows : List Row) → Decides (are_plain rows) (ArePlain rows) → Decides (are_plain (r ∷ rows)) (((r.asked ≡ []) × (r.asks ≡ [])) × ArePlain rows)
    row_plain r rows d =
        both ((r.asked ≡ []) × (r.asks ≡ [])) (ArePlain rows) (is_none r.asked && is_none r.asks) (are_plain rows)
        (both (r.asked ≡ []) (r.asks ≡ []) (is_none r.asked) (is_none r.asks) (none_decided r.asked) (none_decided r.asks)) d

module _ (paths : PathLaws) (g : TaskGraph) (valid : IsGraph g) where
  -- shapes
  shape_decided : (tree : Tree) → Decides (fits g tree) (HasShape g tree)
  shape_decided (OnInput i a b) =
      both3 (i < g.inputs) (HasShape g a) (HasShape g b) (nat_lt i g.inputs) (fits g a) (fits g b) (below_decided i g.inputs) (shape_decided a) (shape_decided b)
  shape_decided (OnEnd t a b d) =
      both4 (is_task g t) (HasShape g a) (HasShape g b) (HasShape g d) (nat_lt t (length g.tasks)) (fits g a) (fits g b) (fits g d) (below_decided t (length g.tasks)) (shape_decided a) (shape_decided b) (shape_decided d)
  shape_decided (OnWinner n x a b) = (λ e. true_false (sym e), λ n. absurd n)
  shape_decided (RowsLeaf rows) =
      both3 (length rows ≡ length g.tasks) (IdsOfRows g (plain rows)) (ArePlain rows) (nat_eq (length rows) (length g.tasks)) (rows_fit g (plain rows)) (are_plain rows) (same (length rows) (length g.tasks)) (rows_decided g (plain rows)) (plain_decided rows)
  shape_decided LeastLeaf = (λ e. true_false (sym e), λ n. absurd n)

  abbrev leaf_tests : (p : Property TaskId) (b : Branch) → LeafTests g (leaf_rules g p b)
  leaf_tests p b = record {
    broken = broken g b.assumes b.rows;
    closed = λ t. broken_lem paths g b.assumes b.rows t valid;
    is_broken = λ t.
        breaks_first (row_rules g b.assumes b.rows t) (runs g b.assumes b.rows t) (ends g b.assumes b.rows t) (before g b.rows t) (past g b.assumes b.rows t) (chain g b.assumes b.rows t)
        (runs_lem paths g b.assumes b.rows t valid) (ends_lem paths g b.assumes b.rows t) (before_lem paths g b.rows t valid) (past_lem paths g b.assumes b.rows t valid) (chain_lem paths g b.assumes b.rows t)
        (past_rule_is (kind g t));
    first = first_broken g b.assumes b.rows;
    first_of_none = λ t. refl;
    first_of_more = λ t n. refl;
    proves = proves g b.assumes b.rows p;
    proved = proves_lem paths g b.assumes b.rows p;
  }

  abbrev tests : Tests g (certificates g)
  tests = record {
    fits = fits g;
    shaped = shape_decided;
    misfit = misfit g;
    misfit_of_none = λ n. refl;
    misfit_of_tree = λ n tree trees. refl;
    misfit_of_claim = λ n claim claims. refl;
    misfit_of_both = λ n claim claims tree trees. refl;
    leaf = leaf_tests;
    tree = λ n claim tree. tree_fault g claim.body n (assumed_for WithoutTokens g claim) 1 tree;
    tree_is = λ n claim tree. tree_is g claim.body n (assumed_for WithoutTokens g claim) 1 tree;
    claims = claims_fault g;
    claims_of_none = λ n. refl;
    claims_of_more = λ n claim more tree trees. refl;
    accepts = λ claim tree. leaves_accepted g claim.body (assumed_for WithoutTokens g claim) tree;
    accepted = λ claim tree a. (accepted_shape g claim.body (assumed_for WithoutTokens g claim) tree a, accepted_leaves g claim.body (assumed_for WithoutTokens g claim) tree a);
  }

-- each tree is accepted just where the certificate is
all_accepted : (g : TaskGraph) (claims : List Claim) (trees : List Tree) → AllZip (λ claim tree. AcceptsTree g claim.body (assumed_for WithoutTokens g claim) tree) claims trees ↔ Accepts g claims trees
all_accepted g [] [] = (λ a. a, λ a. a)
all_accepted g [] (tree ∷ trees) = (λ a. a, λ a. a)
all_accepted g (claim ∷ claims) [] = (λ a. a, λ a. a)
all_accepted g (claim ∷ claims) (tree ∷ trees) = let rest = all_accepted g claims trees in (λ a. (a.0, rest.0 a.1), λ a. (a.0, rest.1 a.1))

pub verdict_lem : PathLaws → VerdictIsRight
verdict_lem paths g claims trees valid =
    let none = finds_none g (certificates g) (tests paths g valid) claims trees in
    let all = all_accepted g claims trees in
    (λ e. all.0 (none.0 e), λ a. none.1 (all.1 a))

pub first_fault : PathLaws → FaultIsFirst
first_fault paths g claims trees fault valid e = finds_first g (certificates g) (tests paths g valid) claims trees fault e

pub one_fault : OneFirstFault
one_fault g claims trees one other a b =
    one_first g (certificates g) (are_sound g) (λ claim tree. accepted_leaves g claim.body (assumed_for WithoutTokens g claim) tree) claims trees one other a b

-- the first fault names a task of the graph
pub names_task : (g : TaskGraph) (claims : List Claim) (trees : List Tree) (claim leaf : ℕ) (t : TaskId) (rule : Rule) → IsFirstFault g claims trees (NotClosed claim leaf t rule) → is_task g t.0
names_task g claims trees claim leaf t rule f = first_names g (certificates g) claims trees claim leaf t rule f
