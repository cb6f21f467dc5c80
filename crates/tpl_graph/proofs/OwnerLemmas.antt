-- The sites of a draft with their owners are the graph's.
use Rattle.std.proofs.Common.{◌≡◌, ℕ, suc, ◌+◌, ◌<◌, ◌≤◌, Bool, ◌++◌, List, [], ◌∷◌, length, map, flat_map, drop, get_or, refl, sym, ap, ◌∙◌, arith, append_assoc, append-nil, add-one, drop-cons, length-append}
use Rattle.std.proofs.lemmas.List.{map-append, drop_all, length-map, get_or-map}
use Rattle.tpl_model.specs.Statements.{Statement, Statements, sites, sites_of}
use Rattle.tpl_model.specs.Statements as script
use Rattle.tpl_model.specs.Graph as graph
use Rattle.tpl_model.specs.Graph.{TaskGraph}
use Rattle.tpl_model.specs.Valid.{all_sites}
use Rattle.tpl_draft.specs.declared.draft.DraftTask.{DraftTask}
use Rattle.tpl_graph.specs.declared.row.Site.{Site}
use Rattle.tpl_graph.specs.Collected.{owned_in, owned, all_owned}
use Rattle.tpl_draft.specs.Draft.{Line, Lines, If, When, Nothing, Then, each_of, each_within, Task, Draft, worked}
use Rattle.tpl_draft.specs.Named.{Names, may_fails, may_fails_of}
use Rattle.tpl_draft.specs.Numbered.{script_in, statement_in, task_in, names_of, graph_in}
use Rattle.tpl_draft.specs.SeenTasks.{task_of}
use Rattle.tpl_graph.specs.Sites.{owners_from, AreSites}
use Rattle.tpl_graph.proofs.CollectLemmas.{flat_map_append}

-- the sites of the tasks before the t-th are added
pub record AddedUpTo (items : List DraftTask) (t : ℕ) (start now : List Site) : Type 0 where
  pub made : now ++ all_owned t (drop t (map task_of items)) ≡ start ++ all_owned 0 (map task_of items)

pub none_added : (items : List DraftTask) (start : List Site) → AddedUpTo items 0 start start
none_added items start = record { made = refl }

pub one_added : (items : List DraftTask) (t : ℕ) (start now new : List Site) (x : DraftTask) → t < length items → x ≡ get_or items t x → AddedUpTo items t start now → new ≡ now ++ owned t (worked (task_of x).kind).body → AddedUpTo items (t + 1) start new
one_added items t start now new x lt is at new_is =
    let within : t < length (map task_of items) = omega (arith, length-map items task_of) in
    let here : get_or (map task_of items) t (task_of x) ≡ task_of x = get_or-map task_of items t x (task_of x) lt ∙ ap task_of (sym is) in
    let split : drop t (map task_of items) ≡ task_of x ∷ drop (suc t) (map task_of items) = drop-cons (map task_of items) t (task_of x) within ∙ ap (λ y. y ∷ drop (suc t) (map task_of items)) here in
    record {
      made = rw add-one
          (ap (λ l. l ++ all_owned (suc t) (drop (suc t) (map task_of items))) new_is
          ∙ (append_assoc now (owned t (worked (task_of x).kind).body) (all_owned (suc t) (drop (suc t) (map task_of items)))
          ∙ (ap (λ l. now ++ all_owned t l) (sym split) ∙ at.made)));
    }

pub all_added : (items : List DraftTask) (t : ℕ) (start now : List Site) → length items ≤ t → AddedUpTo items t start now → now ≡ start ++ all_owned 0 (map task_of items)
all_added items t start now le at =
    sym (append-nil now) ∙ (ap (λ l. now ++ all_owned t l) (sym (drop_all t (map task_of items) (omega (arith, length-map items task_of)))) ∙ at.made)

-- whether they may fail
abbrev may_fail : Site → Bool
may_fail s = s.may_fail

abbrev owner_of : Site → ℕ
owner_of s = s.owner.0

both : {A : Type 0} (a b c d : List A) → a ≡ c → b ≡ d → (a ++ b) ≡ (c ++ d)
both a b c d e f = ap (λ x. x ++ b) e ∙ ap (λ x. c ++ x) f

split_owned : {B : Type 0} (f : Site → B) (t : ℕ) (xs ys : List Line) → map f (flat_map (owned_in t) (xs ++ ys)) ≡ map f (flat_map (owned_in t) xs) ++ map f (flat_map (owned_in t) ys)
split_owned f t xs ys = ap (map f) (flat_map_append (owned_in t) xs ys) ∙ map-append f (flat_map (owned_in t) xs) (flat_map (owned_in t) ys)

module _ (n : Names) (t : ℕ) where
  mutual
    fails_script : (b : Lines) → map may_fail (flat_map (owned_in t) (each_of b)) ≡ may_fails (script_in n b)
    fails_script Nothing = refl
    fails_script (Then s rest) =
        split_owned may_fail t (s ∷ each_within s) (each_of rest)
        ∙ both (map may_fail (flat_map (owned_in t) (s ∷ each_within s))) (map may_fail (flat_map (owned_in t) (each_of rest))) (may_fails_of (statement_in n s)) (may_fails (script_in n rest)) (fails_statement s) (fails_script rest)

    fails_statement : (s : Line) → map may_fail (flat_map (owned_in t) (s ∷ each_within s)) ≡ may_fails_of (statement_in n s)
    fails_statement (If i a b) =
        split_owned may_fail t (each_of a) (each_of b)
        ∙ both (map may_fail (flat_map (owned_in t) (each_of a))) (map may_fail (flat_map (owned_in t) (each_of b))) (may_fails (script_in n a)) (may_fails (script_in n b)) (fails_script a) (fails_script b)
    fails_statement (When f a b) =
        split_owned may_fail t (each_of a) (each_of b)
        ∙ both (map may_fail (flat_map (owned_in t) (each_of a))) (map may_fail (flat_map (owned_in t) (each_of b))) (may_fails (script_in n a)) (may_fails (script_in n b)) (fails_script a) (fails_script b)
    fails_statement s = refl

  mutual
    owner_script : (b : Lines) → map owner_of (flat_map (owned_in t) (each_of b)) ≡ map (λ _. t) (sites (script_in n b))
    owner_script Nothing = refl
    owner_script (Then s rest) =
        split_owned owner_of t (s ∷ each_within s) (each_of rest)
        ∙ (both (map owner_of (flat_map (owned_in t) (s ∷ each_within s))) (map owner_of (flat_map (owned_in t) (each_of rest))) (map (λ _. t) (sites_of (statement_in n s))) (map (λ _. t) (sites (script_in n rest))) (owner_statement s) (owner_script rest)
        ∙ sym (map-append (λ _. t) (sites_of (statement_in n s)) (sites (script_in n rest))))

    owner_statement : (s : Line) → map owner_of (flat_map (owned_in t) (s ∷ each_within s)) ≡ map (λ _. t) (sites_of (statement_in n s))
    owner_statement (If i a b) =
        split_owned owner_of t (each_of a) (each_of b)
        ∙ (both (map owner_of (flat_map (owned_in t) (each_of a))) (map owner_of (flat_map (owned_in t) (each_of b))) (map (λ _. t) (sites (script_in n a))) (map (λ _. t) (sites (script_in n b))) (owner_script a) (owner_script b)
        ∙ sym (map-append (λ _. t) (sites (script_in n a)) (sites (script_in n b))))
    owner_statement (When f a b) =
        split_owned owner_of t (each_of a) (each_of b)
        ∙ (both (map owner_of (flat_map (owned_in t) (each_of a))) (map owner_of (flat_map (owned_in t) (each_of b))) (map (λ _. t) (sites (script_in n a))) (map (λ _. t) (sites (script_in n b))) (owner_script a) (owner_script b)
        ∙ sym (map-append (λ _. t) (sites (script_in n a)) (sites (script_in n b))))
    owner_statement s = refl

fails_all : (n : Names) (t : ℕ) (ts : List Task) → map may_fail (all_owned t ts) ≡ flat_map (λ (x : graph.Task). may_fails x.body) (map (task_in n) ts)
fails_all n t [] = refl
fails_all n t (x ∷ ts) =
    map-append may_fail (owned t (worked x.kind).body) (all_owned (suc t) ts)
    ∙ both (map may_fail (owned t (worked x.kind).body)) (map may_fail (all_owned (suc t) ts)) (may_fails (script_in n (worked x.kind).body)) (flat_map (λ (y : graph.Task). may_fails y.body) (map (task_in n) ts)) (fails_script n t (worked x.kind).body) (fails_all n (suc t) ts)

owners_all : (n : Names) (t : ℕ) (ts : List Task) → map owner_of (all_owned t ts) ≡ owners_from t (map (task_in n) ts)
owners_all n t [] = refl
owners_all n t (x ∷ ts) =
    map-append owner_of (owned t (worked x.kind).body) (all_owned (suc t) ts)
    ∙ both (map owner_of (owned t (worked x.kind).body)) (map owner_of (all_owned (suc t) ts)) (map (λ _. t) (sites (script_in n (worked x.kind).body))) (owners_from (suc t) (map (task_in n) ts)) (owner_script n t (worked x.kind).body) (owners_all n (suc t) ts)

pub are_sites : (d : Draft) (table : List Site) → table ≡ all_owned 0 d.tasks → AreSites (graph_in (names_of d) d) table
are_sites d table e = record {
  may_fail = ap (map may_fail) e ∙ fails_all (names_of d) 0 d.tasks;
  owners = ap (map owner_of) e ∙ owners_all (names_of d) 0 d.tasks;
}

-- as many as sites
mutual
  pub as_many : (b : Statements) → length (may_fails b) ≡ length (sites b)
  as_many script.Nothing = refl
  as_many (script.◌⨾◌ s rest) = omega (arith, length-append (may_fails_of s) (may_fails rest), length-append (sites_of s) (sites rest), as_many_in s, as_many rest)

  pub as_many_in : (s : Statement) → length (may_fails_of s) ≡ length (sites_of s)
  as_many_in (script.If i a b) = omega (arith, length-append (may_fails a) (may_fails b), length-append (sites a) (sites b), as_many a, as_many b)
  as_many_in (script.When f a b) = omega (arith, length-append (may_fails a) (may_fails b), length-append (sites a) (sites b), as_many a, as_many b)
  as_many_in s = refl

as_many_all : (ts : List graph.Task) → length (flat_map (λ (x : graph.Task). may_fails x.body) ts) ≡ length (flat_map (λ (x : graph.Task). sites x.body) ts)
as_many_all [] = refl
as_many_all (x ∷ ts) = omega (arith, length-append (may_fails x.body) (flat_map (λ (y : graph.Task). may_fails y.body) ts), length-append (sites x.body) (flat_map (λ (y : graph.Task). sites y.body) ts), as_many x.body, as_many_all ts)

pub sites_long : (g : TaskGraph) (table : List Site) → AreSites g table → length table ≡ length (all_sites g)
sites_long g table are = sym (length-map table may_fail) ∙ (ap length are.may_fail ∙ as_many_all g.tasks)
