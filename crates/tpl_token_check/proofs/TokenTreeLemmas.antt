-- Leaf by leaf, and claim by claim.
use Rattle.std.proofs.Common.{◌≡◌, ℕ, ◌+◌, ◌<◌, ◌&&◌, ◌++◌, Bool, true, false, Option, Some, None, Result, Ok, Err, List, [], ◌∷◌, length, map, take, nat_eq, refl, sym, ap, ◌∙◌, subst, slice_index_or, add_assoc}
use Rattle.std.specs.Prelude.{IfOk, IfErr, slice_get}
use Rattle.std.specs.Option.{option_map}
use Rattle.std.proofs.lemmas.Bool.{eqb-true, and_parts}
use Rattle.std.proofs.lemmas.List.{take_more, map-append}
use Rattle.std.proofs.lemmas.Option.{slice_get-map, slice_get-get_or}
use Rattle.tpl_model.proofs.Truths.{and_assoc, and_true}
use Rattle.tpl_model.specs.Members.{mem}
use Rattle.tpl_model.specs.Knowledge.{Fact, ChildEnd}
use Rattle.tpl_model.specs.Graph.{TaskGraph}
use Rattle.tpl_model.specs.Claims.{Claim}
use Rattle.tpl_model.specs.Certificate.{row, same, Row, Tree, OnWinner, RowsLeaf, plain}
use Rattle.tpl_model.specs.TokenRules.{LeafAssumed, ends_with, narrowed, whole_row, assumed_with_tokens, winner_split}
use Rattle.tpl_model.specs.declared.claim.Property.{Property}
use Rattle.tpl_model.specs.declared.fault.CertFault.{CertFault}
use Rattle.tpl_model.specs.declared.ids.TaskId.{TaskId}
use Rattle.tpl_paths.specs.declared.reading.ChildEnd.{ChildEnd as StoredChildEnd}
use Rattle.tpl_paths.specs.Reading.{end_of}
use Rattle.tpl_laws.specs.Verdict.{or_else, no_fault, rows_fit, leaves}
use Rattle.tpl_laws.specs.TokenTests.{token_leaf_fault}
use Rattle.tpl_laws.specs.TokenVerdict.{tokens_fit, token_claims_fault, token_fits, token_misfit, token_tree_fault}
use Rattle.tpl_checker.specs.declared.assumptions.Assumptions.{Assumptions}
use Rattle.tpl_checker.specs.Assumptions.{assumed_of}
use Rattle.tpl_checker.proofs.TreeLemmas.{ClaimsSoFar, FindsFaults, claim_fails, claim_next, or_else_first, or_else_second}
use Rattle.tpl_token_check.specs.declared.error.TokenFault.{TokenFault}
use Rattle.tpl_token_check.specs.declared.error.TokenFault.TheVariants.{Fails, Memory}
use Rattle.tpl_token_leaf.specs.declared.winners.WinnerSplit.{WinnerSplit}
use Rattle.tpl_token_check.specs.Faults.{IsAnswer, FailingWithTokens}
use Rattle.tpl_token_leaf.specs.Leaf.{row_end, row_facts, leaf_assumed}
use Rattle.tpl_token_leaf.specs.Narrowed.{narrowed_before}
use Rattle.tpl_token_leaf.specs.Winners.{all_leave, leaves_winner}
use Rattle.tpl_checker.proofs.Basics.{plain_row}
use Rattle.tpl_token_leaf.proofs.Rows.{by_fact}
use Rattle.tpl_token_check.proofs.TokenShapeLemmas.{finds_token_misfits}

-- where the first part fails, so does the whole
pub failing_first : (a b : Option CertFault) (n m : ℕ) (e : TokenFault) → FailingWithTokens a n (Err e) → FailingWithTokens (or_else a b) m (Err e)
failing_first a b n m (Fails x) f = or_else_first a b x f
failing_first a b n m Memory f = tt

-- where the first part has no fault, the second decides
pub failing_second : (a b : Option CertFault) (n m : ℕ) (r : Result ℕ TokenFault) → a ≡ None → n ≡ m → FailingWithTokens b n r → FailingWithTokens (or_else a b) m r
failing_second a b n m (Ok k) e same f = (or_else_second a b e ∙ f.0, f.1 ∙ same)
failing_second a b n m (Err (Fails x)) e same f = or_else_second a b e ∙ f
failing_second a b n m (Err Memory) e same f = tt

-- a leaf has a row for each task, and the ids in them are the graph's
pub record LeafFits (g : TaskGraph) (rows : List Row) : Type 0 where
  pub count : length rows ≡ length g.tasks
  pub ids : rows_fit g (plain rows) ≡ true

pub leaf_fits : (g : TaskGraph) (rows : List Row) → token_fits g (RowsLeaf rows) ≡ true → LeafFits g rows
leaf_fits g rows e =
    let s = and_parts (nat_eq (length rows) (length g.tasks)) (rows_fit g (plain rows) && tokens_fit g rows) e in
    let r = and_parts (rows_fit g (plain rows)) (tokens_fit g rows) s.1 in
    record { count = eqb-true (length rows) (length g.tasks) s.0; ids = r.0 }

-- one more split on a winner
all_leave_more : (splits : List WinnerSplit) (s : WinnerSplit) (m y : ℕ) → all_leave (splits ++ s ∷ []) m y ≡ (all_leave splits m y && leaves_winner s m y)
all_leave_more [] s m y = and_true (leaves_winner s m y)
all_leave_more (x ∷ splits) s m y = ap (λ z. leaves_winner x m y && z) (all_leave_more splits s m y) ∙ sym (and_assoc (leaves_winner x m y) (all_leave splits m y) (leaves_winner s m y))

pub one_more_split : (a : Assumptions) (splits items : List WinnerSplit) (n x : TaskId) (wins : Bool) → items ≡ splits ++ (record { task = n; argument = x; wins = wins }) ∷ [] → leaf_assumed a items ≡ winner_split (leaf_assumed a splits) n.0 x.0 wins
one_more_split a splits items n x wins e =
    ap (leaf_assumed a) e ∙ (λ i. record { assumed = assumed_of a; wins = λ m y. all_leave_more splits (record { task = n; argument = x; wins = wins }) m y i })

-- a split on a winner, where the branch on which it wins fails, and where that has no fault
module _ (g : TaskGraph) (p : Property TaskId) (claim first : ℕ) (l : LeafAssumed) {won : LeafAssumed} {tree a b one : Tree} {n x : ℕ} (is : tree ≡ OnWinner n x a b) (wins : won ≡ winner_split l n x true) (is_one : one ≡ a) where
  pub winner_fails : (e : TokenFault) → FailingWithTokens (token_tree_fault g p claim won first one) (first + leaves one) (Err e) → FailingWithTokens (token_tree_fault g p claim l first tree) (first + leaves tree) (Err e)
  winner_fails e h =
      let here : token_tree_fault g p claim won first one ≡ token_tree_fault g p claim (winner_split l n x true) first a = λ i. token_tree_fault g p claim (wins i) first (is_one i) in
      subst (λ (z : Tree). FailingWithTokens (token_tree_fault g p claim l first z) (first + leaves z) (Err e)) (sym is)
      (failing_first (token_tree_fault g p claim (winner_split l n x true) first a) (token_tree_fault g p claim (winner_split l n x false) (first + leaves a) b) (first + leaves one) (first + leaves (OnWinner n x a b)) e
      (subst (λ (o : Option CertFault). FailingWithTokens o (first + leaves one) (Err e)) here h))

  pub loser_decides : (lost : LeafAssumed) (other : Tree) (next : ℕ) (r : Result ℕ TokenFault) → lost ≡ winner_split l n x false → other ≡ b → token_tree_fault g p claim won first one ≡ None → next ≡ first + leaves one
      → FailingWithTokens (token_tree_fault g p claim lost next other) (next + leaves other) r → FailingWithTokens (token_tree_fault g p claim l first tree) (first + leaves tree) r
  loser_decides lost other next r loses is_other none up h =
      let here : token_tree_fault g p claim won first one ≡ token_tree_fault g p claim (winner_split l n x true) first a = λ i. token_tree_fault g p claim (wins i) first (is_one i) in
      let on : next ≡ first + leaves a = up ∙ ap (λ z. first + leaves z) is_one in
      let there : token_tree_fault g p claim lost next other ≡ token_tree_fault g p claim (winner_split l n x false) (first + leaves a) b = λ i. token_tree_fault g p claim (loses i) (on i) (is_other i) in
      let all : next + leaves other ≡ first + leaves (OnWinner n x a b) = (λ i. on i + leaves (is_other i)) ∙ add_assoc first (leaves a) (leaves b) in
      subst (λ (z : Tree). FailingWithTokens (token_tree_fault g p claim l first z) (first + leaves z) r) (sym is)
      (failing_second (token_tree_fault g p claim (winner_split l n x true) first a) (token_tree_fault g p claim (winner_split l n x false) (first + leaves a) b) (next + leaves other) (first + leaves (OnWinner n x a b)) r (sym here ∙ none) all
      (subst (λ (o : Option CertFault). FailingWithTokens o (next + leaves other) r) there h))

-- a leaf, where the ends that its splits left are narrowed
module _ (g : TaskGraph) (p : Property TaskId) (a b : Assumptions) (splits : List WinnerSplit) (rows : List Row) (narrow : assumed_of b ≡ narrowed_before g (assumed_of a) (length g.tasks)) where
  pub narrowed_leaf : token_leaf_fault g p (leaf_assumed b splits) rows ≡ token_leaf_fault g p (narrowed g (leaf_assumed a splits)) rows
  narrowed_leaf = λ i. token_leaf_fault g p (record { assumed = narrow i; wins = all_leave splits }) rows

-- how tasks end, by their rows
same_end : (rows : List Row) (t : ℕ) → row_end (whole_row rows t) ≡ record { ends = (row (plain rows) t).ends; facts = ends_with rows t }
same_end rows t = λ i. record { ends = (plain_row rows t i).ends; facts = λ f. same_facts f i }
  where
    same_facts : (f : Fact) → row_facts (whole_row rows t) f ≡ ends_with rows t f
    same_facts = by_fact (λ f. row_facts (whole_row rows t) f ≡ ends_with rows t f) (λ x. ap (λ r. mem x r.past) (plain_row rows t)) (λ k. refl)

pub ends_of_rows : (rows : List Row) (ends : List StoredChildEnd) → map end_of ends ≡ map row_end rows → (t : ℕ) → t < length rows
    → option_map end_of (slice_get ends t) ≡ Some (record { ends = (row (plain rows) t).ends; facts = ends_with rows t })
ends_of_rows rows ends h t lt =
    sym (slice_get-map end_of ends t)
    ∙ (ap (λ (es : List ChildEnd). slice_get es t) h
    ∙ (slice_get-map row_end rows t
    ∙ (ap (λ o. option_map row_end o) (slice_get-get_or rows t (record { row = row [] t; asked = []; asks = [] }) lt)
    ∙ ap Some (same_end rows t))))

pub one_more_end : (rows : List Row) (ends : List StoredChildEnd) (i : ℕ) (d : Row) (e : StoredChildEnd) → i < length rows → map end_of ends ≡ map row_end (take i rows) → end_of e ≡ row_end (slice_index_or rows i d) → map end_of (ends ++ e ∷ []) ≡ map row_end (take (i + 1) rows)
one_more_end rows ends i d e lt h same =
    map-append end_of ends (e ∷ [])
    ∙ ((λ j. h j ++ same j ∷ [])
    ∙ (sym (map-append row_end (take i rows) (slice_index_or rows i d ∷ [])) ∙ ap (λ (rs : List Row). map row_end rs) (sym (take_more rows i d lt))))

-- the fault of a tree of the n-th claim
abbrev pub token_fault_of : TaskGraph → ℕ → Claim → Tree → Option CertFault
token_fault_of g n c t = token_tree_fault g c.body n (assumed_with_tokens g c) 1 t

pub finds_token_faults : (g : TaskGraph) → FindsFaults (token_fault_of g) (token_claims_fault g)
finds_token_faults g = record { none = λ n ts. refl; next = λ n c cs t ts. refl }

-- at the claim c with the tree t
module _ (g : TaskGraph) {claims : List Claim} {trees : List Tree} {i : ℕ} (so_far : ClaimsSoFar (token_misfit g) (token_claims_fault g) claims trees i) (in_claims : i < length claims) (c : Claim) (t : Tree) (is_claim : c ≡ slice_index_or claims i c) (is_tree : t ≡ slice_index_or trees i t) where
  pub claim_proved : token_fault_of g (i + 1) c t ≡ None → ClaimsSoFar (token_misfit g) (token_claims_fault g) claims trees (i + 1)
  claim_proved e = claim_next (finds_token_misfits g) so_far in_claims (finds_token_faults g) c t (sym (λ j. token_fault_of g (i + 1) (is_claim j) (is_tree j)) ∙ e)

  -- where its tree fails, or memory ends, so does the whole
  pub claim_answers : (n : ℕ) (e : TokenFault) → FailingWithTokens (token_fault_of g (i + 1) c t) n (Err e) → IsAnswer (no_fault (token_claims_fault g 1 claims trees)) (Err e)
  claim_answers n (Fails x) f = ap no_fault (claim_fails (finds_token_misfits g) so_far in_claims (finds_token_faults g) c t x (sym (λ j. token_fault_of g (i + 1) (is_claim j) (is_tree j)) ∙ f))
  claim_answers n Memory f = tt

err_not_ok : {P : Type 0} (x : CertFault) (r : Result (Unit {0}) CertFault) → r ≡ Err x → r ≡ Ok tt → P
err_not_ok x r a b = absurd (cc)

-- what is said where the answer is Ok, and where it is an error
module _ (verdict : Result (Unit {0}) CertFault) (P : Type 0) where
  pub if_ok : (r : Result (Unit {0}) TokenFault) → IsAnswer verdict r → (verdict ≡ Ok tt → P) → IfOk r (λ u. P)
  if_ok (Ok u) a h = h a
  if_ok (Err e) a h = tt

  pub if_err : (r : Result (Unit {0}) TokenFault) → IsAnswer verdict r → (P → verdict ≡ Ok tt) → IfErr r (λ e. P → e ≡ Memory)
  if_err (Ok u) a h = tt
  if_err (Err (Fails x)) a h = λ p. err_not_ok x verdict a (h p)
  if_err (Err Memory) a h = λ p. refl
