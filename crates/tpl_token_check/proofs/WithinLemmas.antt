-- Of tasks and tokens those of a graph.
use Rattle.std.proofs.Common.{◌≡◌, ℕ, ◌<◌, ◌≤◌, ◌&&◌, Bool, true, List, length, sym, ◌∙◌, arith}
use Rattle.std.proofs.lemmas.Bool.{and_from, lt-ltb, ltb-true}
use Rattle.tpl_model.proofs.SetLists.{mem_within, mem-passing_from, passing_from-ascends, passing_from-mem, same_members}
use Rattle.tpl_model.proofs.Truths.{and_first, and_second, same_tests}
use Rattle.tpl_model.specs.Members.{mem}
use Rattle.tpl_model.specs.Graph.{TaskGraph}
use Rattle.tpl_model.specs.TaskSet.{AscendsWithin, passing_from}
use Rattle.tpl_trees.specs.Coding.{tokens_in}
use Rattle.tpl_paths.specs.declared.facts.Facts.{Facts}
use Rattle.tpl_paths.specs.declared.token_set.TokenSet.{TokenSet}
use Rattle.tpl_paths.specs.TokenSet.{has_token}
use Rattle.tpl_laws.specs.LeastRows.{tasks_where, tokens_where}
use Rattle.tpl_token_check.specs.Within.{IsAll}

-- a number below n that passes the test, and what passes it
module _ (test : ℕ → Bool) (n high : ℕ) (le : n ≤ high) (xs : List ℕ) (set : AscendsWithin 0 high xs) (into : (x : ℕ) → mem x xs ≡ true → (x < n) × (test x ≡ true)) (out : (x : ℕ) → x < n → test x ≡ true → mem x xs ≡ true) where
  ascends : AscendsWithin 0 high (passing_from test 0 n)
  ascends = passing_from-ascends test 0 n high (omega arith)

  inside : (x : ℕ) → mem x (passing_from test 0 n) ≡ true → x < n
  inside x m = (mem_within 0 n (passing_from test 0 n) x (passing_from-ascends test 0 n n (omega arith)) m).1

  passes : (x : ℕ) → mem x xs ≡ true → mem x (passing_from test 0 n) ≡ true
  passes x m = let in_it = into x m in let lt = in_it.0 in passing_from-mem test 0 n x (omega arith) (omega arith) in_it.1

  -- the ascending list is that of the numbers that pass the test
  all_passing : xs ≡ passing_from test 0 n
  all_passing = same_members 0 high xs (passing_from test 0 n) set ascends (λ x. same_tests (mem x xs) (mem x (passing_from test 0 n)) (passes x) (λ m. out x (inside x m) (mem-passing_from test 0 n x m)))

pub tasks_within : (g : TaskGraph) (all : Facts) (tasks found : List ℕ) (test : ℕ → Bool) → IsAll g all → AscendsWithin 0 1024 found → ((x : ℕ) → mem x found ≡ (mem x all.tasks && mem x tasks))
    → ((x : ℕ) → x < length g.tasks → mem x tasks ≡ test x) → found ≡ tasks_where g test
tasks_within g all tasks found test a set members same = all_passing test (length g.tasks) 1024 a.few_tasks found set into out
  where
    into : (x : ℕ) → mem x found ≡ true → (x < length g.tasks) × (test x ≡ true)
    into x m =
        let both = sym (members x) ∙ m in
        let lt = ltb-true x (length g.tasks) (sym (a.tasks x) ∙ and_first (mem x all.tasks) (mem x tasks) both) in
        (lt, sym (same x lt) ∙ and_second (mem x all.tasks) (mem x tasks) both)

    out : (x : ℕ) → x < length g.tasks → test x ≡ true → mem x found ≡ true
    out x lt e = members x ∙ and_from (mem x all.tasks) (mem x tasks) (a.tasks x ∙ lt-ltb x (length g.tasks) lt) (same x lt ∙ e)

pub tokens_within : (g : TaskGraph) (all : Facts) (tokens found : TokenSet) (test : ℕ → Bool) → IsAll g all → ((k : ℕ) → has_token found k ≡ (has_token all.tokens k && has_token tokens k))
    → ((k : ℕ) → k < length g.tokens → has_token tokens k ≡ test k) → tokens_in found ≡ tokens_where g test
unfolding tokens_in
tokens_within g all tokens found test a members same = all_passing test (length g.tokens) 32 a.few_tokens (passing_from (has_token found) 0 32) (passing_from-ascends (has_token found) 0 32 32 (omega arith)) into out
  where
    into : (k : ℕ) → mem k (passing_from (has_token found) 0 32) ≡ true → (k < length g.tokens) × (test k ≡ true)
    into k m =
        let both = sym (members k) ∙ mem-passing_from (has_token found) 0 32 k m in
        let lt = ltb-true k (length g.tokens) (sym (a.tokens k) ∙ and_first (has_token all.tokens k) (has_token tokens k) both) in
        (lt, sym (same k lt) ∙ and_second (has_token all.tokens k) (has_token tokens k) both)

    out : (k : ℕ) → k < length g.tokens → test k ≡ true → mem k (passing_from (has_token found) 0 32) ≡ true
    out k lt e =
        let few = a.few_tokens in
        passing_from-mem (has_token found) 0 32 k (omega arith) (omega arith) (members k ∙ and_from (has_token all.tokens k) (has_token tokens k) (a.tokens k ∙ lt-ltb k (length g.tokens) lt) (same k lt ∙ e))
