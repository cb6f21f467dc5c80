-- The ids of a certificate that is accepted.
use Rattle.std.proofs.Common.{◌≡◌, ℕ, ◌<◌, List, [], ◌∷◌, length, true, false, inl, inr, refl, sym, subst, arith}
use Rattle.std.specs.List.{All, list_all}
use Rattle.std.proofs.lemmas.List.Elements.{All-nil, All-cons}
use Rattle.tpl_model.specs.declared.finals.Final.TheVariants.{RanToCompletion, Canceled, Faulted}
use Rattle.std.proofs.lemmas.Bool.{cases_lt, lt-ltb}
use Rattle.tpl_model.specs.Members.{mem}
use Rattle.tpl_model.specs.Graph.{TaskGraph, TaskKind, Root, Child, Continues, WhenAll, WhenAny, kind, is_task, is_token}
use Rattle.tpl_model.specs.Valid.{IsGraph, IsPlaced, ArePlaced}
use Rattle.tpl_model.specs.Claims.{Claim}
use Rattle.tpl_model.specs.declared.ids.TaskId.{TaskId}
use Rattle.tpl_model.specs.declared.claim.Property.{Property}
use Rattle.tpl_model.specs.declared.rule_set.RuleSet.{RuleSet}
use Rattle.tpl_model.specs.declared.rule_set.RuleSet.TheVariants.{WithoutTokens, WithTokens}
use Rattle.tpl_model.specs.Certificate.{AllTasks, IdsOfRows, IsPlain, Assumed, with_input, with_end, assumed_for, AcceptsTree, Accepts, Row, plain, Tree, OnInput, OnEnd, OnWinner, RowsLeaf, LeastLeaf}
use Rattle.tpl_model.specs.TokenRules.{LeafAssumed, AllTokens, TokensOfRows, MayHaveWinner, assumed_with_tokens}
use Rattle.tpl_model.proofs.MemberLemmas.{mem_split}
use Rattle.tpl_model.proofs.Truths.{true_false}
use Rattle.tpl_laws.specs.ByRules.{AcceptsBy}
use Rattle.tpl_laws.specs.SoundnessWithTokens.{TokensAcceptMore}
use Rattle.tpl_laws.specs.TokenTrees.{AcceptsTokenTree, AcceptsWithTokens}
use Rattle.tpl_laws.proofs.Settling.{no_task}
use Rattle.tpl_draft.specs.Named.{Names, Named}
use Rattle.tpl_graph.specs.Kept.{IsNamedGraph}
use Rattle.tpl_cert.specs.Written.{is_id, has_row_ids, has_ids}

-- the ids of a tree that is accepted are the graph's
module _ (n : Names) (g : TaskGraph) (valid : IsGraph g) (tasks : length n.tasks ≡ length g.tasks) (tokens : length n.tokens ≡ length g.tokens) (inputs : length n.inputs ≡ g.inputs) where
  task_known : (t : ℕ) → is_task g t → is_id n.tasks t ≡ true
  task_known t is = lt-ltb t (length n.tasks) (subst (λ (m : ℕ). t < m) (sym tasks) is)

  token_known : (k : ℕ) → is_token g k → is_id n.tokens k ≡ true
  token_known k is = lt-ltb k (length n.tokens) (subst (λ (m : ℕ). k < m) (sym tokens) is)

  input_known : (i : ℕ) → i < g.inputs → is_id n.inputs i ≡ true
  input_known i is = lt-ltb i (length n.inputs) (subst (λ (m : ℕ). i < m) (sym inputs) is)

  tasks_known : (xs : List ℕ) → AllTasks g xs → list_all (is_id n.tasks) xs ≡ true
  tasks_known [] all = refl
  tasks_known (x ∷ xs) all = rw (task_known x all.0, tasks_known xs all.1) refl

  tokens_known : (ks : List ℕ) → AllTokens g ks → list_all (is_id n.tokens) ks ≡ true
  tokens_known [] all = refl
  tokens_known (k ∷ ks) all = rw (token_known k all.0, tokens_known ks all.1) refl

  rows_known : (rows : List Row) → IdsOfRows g (plain rows) → TokensOfRows g rows → list_all (has_row_ids n) rows ≡ true
  rows_known [] ids ks = refl
  rows_known (r ∷ rows) ids ks =
      rw (tokens_known r.asked ks.0, tokens_known r.asks ks.1, tasks_known r.row.before ids.0, tasks_known r.row.past ids.1, tasks_known r.row.chain ids.2, rows_known rows ids.3 ks.2) refl

  -- an argument comes before its task
  placed_task : (t x : ℕ) (args : List ℕ) → is_task g t → ArePlaced g t args → mem x args ≡ true → is_task g x
  placed_task t x [] is placed m = true_false (sym m)
  placed_task t x (y ∷ args) is placed m =
      elim (mem_split x y args m) [
        | inl same ↦ let lt : y < t = placed.0 in subst (λ (z : ℕ). is_task g z) (sym same) (omega arith)
        | inr among ↦ placed_task t x args is placed.2 among
      ]

  argument_task : (t x : ℕ) (k : TaskKind) → is_task g t → IsPlaced g t k → MayHaveWinner k x → is_task g x
  argument_task t x (WhenAny args) is placed m = placed_task t x args is placed.0 m
  argument_task t x Root is placed m = absurd m
  argument_task t x Child is placed m = absurd m
  argument_task t x (Continues a) is placed m = absurd m
  argument_task t x (WhenAll args) is placed m = absurd m

  winner_known : (t x : ℕ) → MayHaveWinner (kind g t) x → (is_id n.tasks t ≡ true) × (is_id n.tasks x ≡ true)
  winner_known t x m =
      elim (cases_lt t (length g.tasks)) [
        | inl is ↦ (task_known t is, task_known x (argument_task t x (kind g t) is (valid.each t is).placed m))
        | inr le ↦ absurd (subst (λ (k : TaskKind). MayHaveWinner k x) (no_task g t le).0 m)
      ]

  tree_known : (p : Property TaskId) (t : Tree) (l : LeafAssumed) → AcceptsTokenTree g p l t → has_ids n t ≡ true
  tree_known p (OnInput i a b) l accepted = rw (input_known i accepted.0, tree_known p a _ accepted.1, tree_known p b _ accepted.2) refl
  tree_known p (OnEnd t a b c) l accepted = rw (task_known t accepted.0, tree_known p a _ accepted.1, tree_known p b _ accepted.2, tree_known p c _ accepted.3) refl
  tree_known p (OnWinner t x a b) l accepted =
      let known = winner_known t x accepted.0 in
      rw (known.0, known.1, tree_known p a _ accepted.1, tree_known p b _ accepted.2) refl
  tree_known p (RowsLeaf rows) l accepted = rows_known rows accepted.1 accepted.2
  tree_known p LeastLeaf l accepted = refl

  known_with_tokens : (claims : List Claim) (trees : List Tree) → AcceptsWithTokens g claims trees → list_all (has_ids n) trees ≡ true
  known_with_tokens [] [] accepted = refl
  known_with_tokens [] (t ∷ trees) accepted = absurd accepted
  known_with_tokens (claim ∷ claims) [] accepted = absurd accepted
  known_with_tokens (claim ∷ claims) (t ∷ trees) accepted =
      rw (tree_known claim.body t (assumed_with_tokens g claim) accepted.0, known_with_tokens claims trees accepted.1) refl

-- what the rules without tokens accept, those with tokens do
pub trees_known : TokensAcceptMore → (m : Named) → IsNamedGraph m → (rules : RuleSet) (claims : List Claim) (trees : List Tree) → AcceptsBy rules m.graph claims trees → list_all (has_ids m.names) trees ≡ true
trees_known more m law WithoutTokens claims trees accepted = known_with_tokens m.names m.graph law.graph law.tasks law.tokens law.inputs claims trees (more m.graph claims trees accepted)
trees_known more m law WithTokens claims trees accepted = known_with_tokens m.names m.graph law.graph law.tasks law.tokens law.inputs claims trees accepted

-- what the rules without tokens accept is plain
tree_plain : (g : TaskGraph) (p : Property TaskId) (l : Assumed) (t : Tree) → AcceptsTree g p l t → IsPlain t
tree_plain g p l (OnInput i a b) accepted = (tree_plain g p (with_input l i true) a accepted.1, tree_plain g p (with_input l i false) b accepted.2)
tree_plain g p l (OnEnd t a b c) accepted =
    (tree_plain g p (with_end l t RanToCompletion) a accepted.1, tree_plain g p (with_end l t Canceled) b accepted.2, tree_plain g p (with_end l t Faulted) c accepted.3)
tree_plain g p l (OnWinner n x a b) accepted = absurd accepted
tree_plain g p l (RowsLeaf rows) accepted = accepted.4
tree_plain g p l LeastLeaf accepted = absurd accepted

all_plain : (g : TaskGraph) (claims : List Claim) (trees : List Tree) → Accepts g claims trees → All IsPlain trees
all_plain g [] [] accepted = All-nil IsPlain
all_plain g [] (t ∷ trees) accepted = absurd accepted
all_plain g (claim ∷ claims) [] accepted = absurd accepted
all_plain g (claim ∷ claims) (t ∷ trees) accepted = All-cons IsPlain t trees (tree_plain g claim.body (assumed_for WithoutTokens g claim) t accepted.0) (all_plain g claims trees accepted.1)

pub plain_without_tokens : (rules : RuleSet) (g : TaskGraph) (claims : List Claim) (trees : List Tree) → AcceptsBy rules g claims trees → rules ≡ WithoutTokens → All IsPlain trees
plain_without_tokens WithoutTokens g claims trees accepted e = all_plain g claims trees accepted
plain_without_tokens WithTokens g claims trees accepted e = absurd cc
