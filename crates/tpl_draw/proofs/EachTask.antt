-- The ways to end of tasks, one after another.
use Rattle.std.proofs.Common.{◌≡◌, ℕ, zero, suc, ◌<◌, inl, inr, ◌||◌, Bool, true, false, List, [], ◌∷◌, ◌++◌, length, get_or, Result, Ok, Err, IfOk, Vec, Global, refl, sym, ap, subst, ◌∙◌, arith}
use Rattle.std.specs.declared.alloc.AllocError.{AllocError}
use Rattle.std.proofs.Math.ListN.{get_or-append}
use Rattle.std.proofs.Math.Seq.{get_or-append_seam}
use Rattle.std.proofs.lemmas.Bool.{cases_lt}
use Rattle.std.proofs.lemmas.List.{length_push}
use Rattle.tpl_model.specs.declared.finals.Finals.{Finals}
use Rattle.tpl_model.specs.declared.finals.Final.TheVariants.{RanToCompletion, Canceled, Faulted}
use Rattle.tpl_model.specs.Graph.{TaskGraph}
use Rattle.tpl_model.specs.declared.ids.TaskId.{TaskId}
use Rattle.tpl_model.specs.declared.claim.Property.{Property}
use Rattle.tpl_model.specs.Claims.{Claim}
use Rattle.tpl_model.specs.Certificate.{Tree, OnInput, OnEnd, OnWinner}
use Rattle.tpl_model.specs.TokenRules.{LeafAssumed, input_split, end_split, winner_split, assumed_with_tokens}
use Rattle.tpl_laws.specs.TokenTrees.{AcceptsTokenTree, AcceptsWithTokens, all_written, written}
use Rattle.tpl_checker.specs.declared.assumptions.Assumptions.{Assumptions}
use Rattle.tpl_token_leaf.specs.declared.winners.WinnerSplit.{WinnerSplit}
use Rattle.tpl_token_leaf.specs.Leaf.{leaf_assumed}
use Rattle.tpl_token_check.proofs.TokenTreeLemmas.{one_more_split}
use Rattle.tpl_draw.specs.Endings.{each_task, either, endings, ends, tree_ends, JoinsEnds}

-- what is the same for each task
pub each_same : (f g : ℕ → Finals) (n : ℕ) → ((t : ℕ) → t < n → f t ≡ g t) → each_task f n ≡ each_task g n
each_same f g zero same = refl
each_same f g (suc n) same = rw (each_same f g n (λ t lt. same t (omega (arith, lt))), same n (omega arith)) refl

-- there is one for each task
pub each_length : (f : ℕ → Finals) (n : ℕ) → length (each_task f n) ≡ n
each_length f zero = refl
each_length f (suc n) = omega (arith, length_push (each_task f n) (f n), each_length f n)

-- and it is that of the task
pub each_at : (f : ℕ → Finals) (n t : ℕ) (d : Finals) → t < n → get_or (each_task f n) t d ≡ f t
each_at f zero t d lt = absurd (omega (arith, lt))
each_at f (suc n) t d lt =
    elim (cases_lt t n) [
      | inl less ↦ get_or-append (each_task f n) (f n ∷ []) d t (omega (arith, less, each_length f n)) ∙ each_at f n t d less
      | inr le ↦ last (omega (arith, lt, le))
    ]
  where
    last : t ≡ n → get_or (each_task f (suc n)) t d ≡ f t
    last e = subst (λ z. get_or (each_task f n ++ f n ∷ []) z d ≡ f t) (each_length f n ∙ sym e) (get_or-append_seam (each_task f n) (f n) [] d ∙ ap f (sym e))

-- what is joined to the ways of tasks is joined to each
pub joined_each : (f ends : ℕ → Finals) (n m : ℕ) (others : List Finals) (d : Finals) → others ≡ each_task ends m → n ≡ length others → each_task (λ t. either (f t) (get_or others t d)) n ≡ each_task (λ t. either (f t) (ends t)) m
joined_each f ends n m others d e is =
    let same : n ≡ m = is ∙ ap length e ∙ each_length ends m in
    subst (λ z. each_task (λ t. either (f t) (get_or others t d)) n ≡ each_task (λ t. either (f t) (ends t)) z) same
    (each_same (λ t. either (f t) (get_or others t d)) (λ t. either (f t) (ends t)) n
    (λ t lt. ap (either (f t)) (ap (λ z. get_or z t d) e ∙ each_at ends m t d (omega (arith, lt, same)))))

or_assoc : (a b c : Bool) → a || (b || c) ≡ (a || b) || c
or_assoc true b c = refl
or_assoc false b c = refl

-- ways that are joined one after another
either_assoc : (a b c : Finals) → either a (either b c) ≡ either (either a b) c
either_assoc a b c = λ i. record {
  ran = or_assoc a.ran b.ran c.ran i;
  canceled = or_assoc a.canceled b.canceled c.canceled i;
  faulted = or_assoc a.faulted b.faulted c.faulted i;
}

pub joins_both : (first second : ℕ → Finals) (others slice found last : List Finals) → slice ≡ found → JoinsEnds others second found → JoinsEnds slice first last → JoinsEnds others (λ t. either (first t) (second t)) last
joins_both first second others slice found last e one two other n is =
    two (λ t. either (second t) (other t)) n (e ∙ one other n is) ∙ each_same _ _ n (λ t lt. either_assoc (first t) (second t) (other t))

pub joins_last : (first second whole : ℕ → Finals) (others slice found : List Finals) (r : Result (Vec Finals Global) AllocError) → slice ≡ found → JoinsEnds others second found → IfOk r (λ v. JoinsEnds slice first v.items) → ((t : ℕ) → either (first t) (second t) ≡ whole t) → IfOk r (λ v. JoinsEnds others whole v.items)
joins_last first second whole others slice found (Ok v) e one two same =
    λ other n is. joins_both first second others slice found v.items e one two other n is ∙ each_same _ _ n (λ t lt. ap (λ z. either z (other t)) (same t))
joins_last first second whole others slice found (Err x) e one two same = tt

-- a loop over the tasks joined them
pub joins_each : (ends : ℕ → Finals) (others found : List Finals) (n : ℕ) (d : Finals) → n ≡ length others → found ≡ each_task (λ t. either (ends t) (get_or others t d)) n → JoinsEnds others ends found
joins_each ends others found n d is e = λ other m same. e ∙ joined_each ends other n m others d same is

-- ---- the trees below a split

pub input_ends : (g : TaskGraph) (p : Property TaskId) (l on off : LeafAssumed) (tree on_true on_false a b : Tree) (i : ℕ) → tree ≡ OnInput i a b → on ≡ input_split l i true → off ≡ input_split l i false → on_true ≡ a → on_false ≡ b
    → (t : ℕ) → either (tree_ends (written g p on on_true) t) (tree_ends (written g p off on_false) t) ≡ tree_ends (written g p l tree) t
input_ends g p l on off tree on_true on_false a b i e is_on is_off same_a same_b t = rw (e, is_on, is_off, same_a, same_b) refl

pub end_ends : (g : TaskGraph) (p : Property TaskId) (l x y z : LeafAssumed) (tree ran canceled faulted a b c : Tree) (s : ℕ) → tree ≡ OnEnd s a b c → x ≡ end_split l s RanToCompletion → y ≡ end_split l s Canceled → z ≡ end_split l s Faulted → ran ≡ a → canceled ≡ b → faulted ≡ c
    → (t : ℕ) → either (tree_ends (written g p x ran) t) (either (tree_ends (written g p y canceled) t) (tree_ends (written g p z faulted) t)) ≡ tree_ends (written g p l tree) t
end_ends g p l x y z tree ran canceled faulted a b c s e on_x on_y on_z same_a same_b same_c t = rw (e, on_x, on_y, on_z, same_a, same_b, same_c) refl

pub winner_ends : (g : TaskGraph) (p : Property TaskId) (l on off : LeafAssumed) (tree on_yes on_no a b : Tree) (n x : ℕ) → tree ≡ OnWinner n x a b → on ≡ winner_split l n x true → off ≡ winner_split l n x false → on_yes ≡ a → on_no ≡ b
    → (t : ℕ) → either (tree_ends (written g p on on_yes) t) (tree_ends (written g p off on_no) t) ≡ tree_ends (written g p l tree) t
winner_ends g p l on off tree on_yes on_no a b n x e is_on is_off same_a same_b t = rw (e, is_on, is_off, same_a, same_b) refl

-- what is accepted of a tree with a split on a winner is so of its branches
pub winner_accepted : (g : TaskGraph) (p : Property TaskId) (l : LeafAssumed) (tree a b : Tree) (n x : ℕ) → tree ≡ OnWinner n x a b → AcceptsTokenTree g p l tree → AcceptsTokenTree g p (winner_split l n x true) a × AcceptsTokenTree g p (winner_split l n x false) b
winner_accepted g p l tree a b n x e acc = let split : AcceptsTokenTree g p l (OnWinner n x a b) = subst (AcceptsTokenTree g p l) e acc in (split.1, split.2)

-- and so of a branch under what is assumed there
pub branch_accepted : (g : TaskGraph) (p : Property TaskId) (a : Assumptions) (winners splits : List WinnerSplit) (n x : TaskId) (wins : Bool) (branch tree : Tree) → splits ≡ winners ++ (record { task = n; argument = x; wins = wins }) ∷ [] → branch ≡ tree → AcceptsTokenTree g p (winner_split (leaf_assumed a winners) n.0 x.0 wins) tree → AcceptsTokenTree g p (leaf_assumed a splits) branch
branch_accepted g p a winners splits n x wins branch tree e f acc = subst (AcceptsTokenTree g p (leaf_assumed a splits)) (sym f) (subst (λ z. AcceptsTokenTree g p z tree) (sym (one_more_split a winners splits n x wins e)) acc)

-- ---- the trees of a certificate

pub accepted_parts : (g : TaskGraph) (claims more : List Claim) (trees others : List Tree) (claim : Claim) (tree : Tree) → claims ≡ claim ∷ more → trees ≡ tree ∷ others → AcceptsWithTokens g claims trees → AcceptsTokenTree g claim.body (assumed_with_tokens g claim) tree × AcceptsWithTokens g more others
accepted_parts g claims more trees others claim tree e f acc = subst (λ z. AcceptsWithTokens g z (tree ∷ others)) e (subst (AcceptsWithTokens g claims) f acc)

pub same_accepts : (g h : TaskGraph) (p q : Property TaskId) (l m : LeafAssumed) (tree : Tree) → h ≡ g → q ≡ p → m ≡ l → AcceptsTokenTree g p l tree → AcceptsTokenTree h q m tree
same_accepts g h p q l m tree e f i acc = subst (λ z. AcceptsTokenTree z q m tree) (sym e) (subst (λ z. AcceptsTokenTree g z m tree) (sym f) (subst (λ z. AcceptsTokenTree g p z tree) (sym i) acc))

-- the first tree is joined to the others
pub joins_first : (g h : TaskGraph) (q : Property TaskId) (m : LeafAssumed) (claims more : List Claim) (trees others : List Tree) (claim : Claim) (tree : Tree) (n : ℕ) (slice found : List Finals) (r : Result (Vec Finals Global) AllocError) → h ≡ g → q ≡ claim.body → m ≡ assumed_with_tokens g claim → claims ≡ claim ∷ more → trees ≡ tree ∷ others → slice ≡ found → found ≡ endings (all_written g more others) n → IfOk r (λ v. JoinsEnds slice (tree_ends (written h q m tree)) v.items) → IfOk r (λ v. v.items ≡ endings (all_written g claims trees) n)
joins_first g h q m claims more trees others claim tree n slice found (Ok v) e f i all_claims all_trees is rest two =
    rw (all_claims, all_trees)
    (two (ends (all_written g more others)) n (is ∙ rest) ∙ each_same _ _ n (λ t lt. ap (λ z. either z (ends (all_written g more others) t)) (same t)))
  where
    same : (t : ℕ) → tree_ends (written h q m tree) t ≡ tree_ends (written g claim.body (assumed_with_tokens g claim) tree) t
    same t = rw (e, f, i) refl
joins_first g h q m claims more trees others claim tree n slice found (Err x) e f i all_claims all_trees is rest two = tt

-- without claims no tree counts
pub no_claims : (g : TaskGraph) (claims : List Claim) (trees : List Tree) → length claims ≡ 0 → all_written g claims trees ≡ []
no_claims g [] trees e = refl
no_claims g (claim ∷ claims) trees e = absurd (omega (arith, e))

-- then no task ends
pub joins_none : (trees : List Tree) (n m : ℕ) (r : Result (Vec Finals Global) AllocError) → trees ≡ [] → m ≡ n → IfOk r (λ v. v.items ≡ endings [] m) → IfOk r (λ v. v.items ≡ endings trees n)
joins_none trees n m (Ok v) e is none = rw (e, ← is) none
joins_none trees n m (Err x) e is none = tt
