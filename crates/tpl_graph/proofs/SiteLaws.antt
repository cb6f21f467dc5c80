-- The sites and labels of a graph with ids.
use Rattle.std.proofs.Common.{◌≡◌, ℕ, zero, suc, ◌+◌, ◌*◌, ◌≤◌, Bool, true, false, ◌++◌, List, [], ◌∷◌, length, map, flat_map, refl, sym, ap, ◌∙◌, arith, length-append}
use Rattle.std.specs.Prelude.{Some, slice_get, if◌then◌else◌}
use Rattle.std.specs.List.{list_any}
use Rattle.std.specs.Str.{bytes_eq}
use Rattle.std.proofs.lemmas.List.{map-append}
use Rattle.std.proofs.lemmas.List.Folds.{list_any-append}
use Rattle.std.proofs.lemmas.List.Sums.{sum_by-cons}
use Rattle.std.proofs.lemmas.Bool.{or_left, or_right}
use Rattle.tpl_graph.proofs.BodyLaws.{append_both}
use Rattle.tpl_model.specs.Statements.{sites, sites_of}
use Rattle.tpl_model.specs.Graph as graph
use Rattle.tpl_draft.specs.declared.sort.Sort.{Sort}
use Rattle.tpl_draft.specs.declared.sort.Sort.TheVariants.{Labels, Sites}
use Rattle.tpl_draft.specs.Draft.{Line, Lines, Throw, Work, If, When, Nothing, Then, each_of, each_within, Task, worked, statements_in, site_count, count_site, line_count, count_line}
use Rattle.tpl_draft.specs.Named.{Names}
use Rattle.tpl_draft.specs.Names.{has_name, place, with_name, with_names}
use Rattle.tpl_draft.specs.Numbered.{script_in, statement_in, task_in, names_in, all_named}
use Rattle.tpl_graph.specs.Kept.{AreNamed, IsNamed}
use Rattle.tpl_graph.specs.Small.{AreSmall}
use Rattle.tpl_draft.specs.Refusals.{site_total}
use Rattle.tpl_graph.proofs.CollectLemmas.{flat_map_append}
use Rattle.tpl_graph.proofs.PlaceLaws.{place_within, same_name}

-- the names of two lists of statements, as numbers
split_named : (n : Names) (xs ys : List Line) → map (place n.sites) (flat_map (names_in Sites) (xs ++ ys)) ≡ map (place n.sites) (flat_map (names_in Sites) xs) ++ map (place n.sites) (flat_map (names_in Sites) ys)
split_named n xs ys = ap (map (place n.sites)) (flat_map_append (names_in Sites) xs ys) ∙ map-append (place n.sites) (flat_map (names_in Sites) xs) (flat_map (names_in Sites) ys)

mutual
  pub sites_script : (n : Names) (b : Lines) → sites (script_in n b) ≡ map (place n.sites) (flat_map (names_in Sites) (each_of b))
  sites_script n Nothing = refl
  sites_script n (Then s rest) =
      append_both (sites_of (statement_in n s)) (sites (script_in n rest)) (map (place n.sites) (flat_map (names_in Sites) (s ∷ each_within s))) (map (place n.sites) (flat_map (names_in Sites) (each_of rest))) (sites_statement n s) (sites_script n rest)
      ∙ sym (split_named n (s ∷ each_within s) (each_of rest))

  sites_statement : (n : Names) (s : Line) → sites_of (statement_in n s) ≡ map (place n.sites) (flat_map (names_in Sites) (s ∷ each_within s))
  sites_statement n (If i a b) =
      append_both (sites (script_in n a)) (sites (script_in n b)) (map (place n.sites) (flat_map (names_in Sites) (each_of a))) (map (place n.sites) (flat_map (names_in Sites) (each_of b))) (sites_script n a) (sites_script n b)
      ∙ sym (split_named n (each_of a) (each_of b))
  sites_statement n (When f a b) =
      append_both (sites (script_in n a)) (sites (script_in n b)) (map (place n.sites) (flat_map (names_in Sites) (each_of a))) (map (place n.sites) (flat_map (names_in Sites) (each_of b))) (sites_script n a) (sites_script n b)
      ∙ sym (split_named n (each_of a) (each_of b))
  sites_statement n s = refl

pub sites_all : (n : Names) (ts : List Task) → flat_map (λ (t : graph.Task). sites t.body) (map (task_in n) ts) ≡ map (place n.sites) (all_named Sites ts)
sites_all n [] = refl
sites_all n (x ∷ ts) =
    append_both (sites (script_in n (worked x.kind).body)) (flat_map (λ (t : graph.Task). sites t.body) (map (task_in n) ts)) (map (place n.sites) (flat_map (names_in Sites) (statements_in x))) (map (place n.sites) (all_named Sites ts)) (sites_script n (worked x.kind).body) (sites_all n ts)
    ∙ sym (map-append (place n.sites) (flat_map (names_in Sites) (statements_in x)) (all_named Sites ts))

-- as many sites as work statements
long_named : (sort : Sort) (xs ys : List Line) → length (flat_map (names_in sort) (xs ++ ys)) ≡ length (flat_map (names_in sort) xs) + length (flat_map (names_in sort) ys)
long_named sort xs ys = ap length (flat_map_append (names_in sort) xs ys) ∙ length-append (flat_map (names_in sort) xs) (flat_map (names_in sort) ys)

mutual
  pub site_count_is : (b : Lines) → length (flat_map (names_in Sites) (each_of b)) ≡ site_count b
  site_count_is Nothing = refl
  site_count_is (Then s rest) = omega (arith, long_named Sites (s ∷ each_within s) (each_of rest), site_count_one s, site_count_is rest)

  site_count_one : (s : Line) → length (flat_map (names_in Sites) (s ∷ each_within s)) ≡ count_site s
  site_count_one (If i a b) = omega (arith, long_named Sites (each_of a) (each_of b), site_count_is a, site_count_is b)
  site_count_one (When f a b) = omega (arith, long_named Sites (each_of a) (each_of b), site_count_is a, site_count_is b)
  site_count_one s = refl

pub site_total_is : (ts : List Task) → length (all_named Sites ts) ≡ site_total ts
site_total_is [] = refl
site_total_is (x ∷ ts) =
    omega (arith, length-append (flat_map (names_in Sites) (statements_in x)) (all_named Sites ts), site_count_is (worked x.kind).body, site_total_is ts, sum_by-cons (λ (y : Task). site_count (worked y.kind).body) x ts)

-- no more labels than statements
mutual
  label_count : (b : Lines) → length (flat_map (names_in Labels) (each_of b)) ≤ line_count b
  label_count Nothing = omega arith
  label_count (Then s rest) = omega (arith, long_named Labels (s ∷ each_within s) (each_of rest), label_count_one s, label_count rest)

  label_count_one : (s : Line) → length (flat_map (names_in Labels) (s ∷ each_within s)) ≤ count_line s
  label_count_one (If i a b) = omega (arith, long_named Labels (each_of a) (each_of b), label_count a, label_count b)
  label_count_one (When f a b) = omega (arith, long_named Labels (each_of a) (each_of b), label_count a, label_count b)
  label_count_one s = omega arith

pub label_total : (ts : List Task) → AreSmall ts → length (all_named Labels ts) ≤ 64 * length ts
label_total [] small = omega arith
label_total (x ∷ ts) small =
    let here = (small 0 x refl).0 in
    let rest = label_total ts (λ t y e. small (suc t) y e) in
    omega (arith, here, rest, length-append (flat_map (names_in Labels) (statements_in x)) (all_named Labels ts), label_count (worked x.kind).body)

pub length-with_names : (n xs : List (List ℕ)) → length (with_names n xs) ≤ length n + length xs
length-with_names n [] = omega arith
length-with_names n (x ∷ xs) = omega (arith, length-with_names (with_name n x) xs, one (has_name n x) refl)
  where
    one : (b : Bool) → has_name n x ≡ b → length (with_name n x) ≤ suc (length n)
    one true is = let same : length (with_name n x) ≡ length n = ap (λ c. length (if c then n else (n ++ x ∷ []))) is in omega arith
    one false is = let same : length (with_name n x) ≡ length (n ++ x ∷ []) = ap (λ c. length (if c then n else (n ++ x ∷ []))) is in omega (arith, length-append n (x ∷ []))

-- each name of a sort in these statements is among the names
abbrev pub AreAmong : Sort → List (List ℕ) → List Line → Type 0
AreAmong sort names ss = (y : List ℕ) → has_name (flat_map (names_in sort) ss) y ≡ true → has_name names y ≡ true

among_left : (sort : Sort) (names : List (List ℕ)) (xs ys : List Line) → AreAmong sort names (xs ++ ys) → AreAmong sort names xs
among_left sort names xs ys all y e =
    all y (ap (λ l. has_name l y) (flat_map_append (names_in sort) xs ys) ∙ (list_any-append (bytes_eq y) (flat_map (names_in sort) xs) (flat_map (names_in sort) ys) ∙ or_left (has_name (flat_map (names_in sort) xs) y) (has_name (flat_map (names_in sort) ys) y) e))

among_right : (sort : Sort) (names : List (List ℕ)) (xs ys : List Line) → AreAmong sort names (xs ++ ys) → AreAmong sort names ys
among_right sort names xs ys all y e =
    all y (ap (λ l. has_name l y) (flat_map_append (names_in sort) xs ys) ∙ (list_any-append (bytes_eq y) (flat_map (names_in sort) xs) (flat_map (names_in sort) ys) ∙ or_right (has_name (flat_map (names_in sort) xs) y) (has_name (flat_map (names_in sort) ys) y) e))

alone : (x : List ℕ) → has_name (x ∷ []) x ≡ true
alone x = or_left (bytes_eq x x) false (same_name x)

module _ (n : Names) where
  mutual
    pub are_named : (b : Lines) → AreAmong Labels n.labels (each_of b) → AreAmong Sites n.sites (each_of b) → AreNamed (length n.labels) (length n.sites) (script_in n b)
    are_named Nothing l s = tt
    are_named (Then x rest) l s =
        (is_named x (among_left Labels n.labels (x ∷ each_within x) (each_of rest) l) (among_left Sites n.sites (x ∷ each_within x) (each_of rest) s), are_named rest (among_right Labels n.labels (x ∷ each_within x) (each_of rest) l) (among_right Sites n.sites (x ∷ each_within x) (each_of rest) s))

    is_named : (x : Line) → AreAmong Labels n.labels (x ∷ each_within x) → AreAmong Sites n.sites (x ∷ each_within x) → IsNamed (length n.labels) (length n.sites) (statement_in n x)
    is_named (Throw label) l s = place_within n.labels label (l label (alone label))
    is_named (Work site may_fail) l s = place_within n.sites site (s site (alone site))
    is_named (If i a b) l s =
        (are_named a (among_left Labels n.labels (each_of a) (each_of b) l) (among_left Sites n.sites (each_of a) (each_of b) s), are_named b (among_right Labels n.labels (each_of a) (each_of b) l) (among_right Sites n.sites (each_of a) (each_of b) s))
    is_named (When f a b) l s =
        (are_named a (among_left Labels n.labels (each_of a) (each_of b) l) (among_left Sites n.sites (each_of a) (each_of b) s), are_named b (among_right Labels n.labels (each_of a) (each_of b) l) (among_right Sites n.sites (each_of a) (each_of b) s))
    is_named _ l s = tt

-- the names of a task are among those of all
pub any_flat : {A B : Type 0} (f : A → List B) (p : B → Bool) (xs : List A) (t : ℕ) (x : A) → slice_get xs t ≡ Some x → list_any p (f x) ≡ true → list_any p (flat_map f xs) ≡ true
any_flat f p [] t x here e = absurd (cc)
any_flat f p (z ∷ xs) zero x here e =
    let same : z ≡ x = cc in
    list_any-append p (f z) (flat_map f xs) ∙ or_left (list_any p (f z)) (list_any p (flat_map f xs)) (ap (λ y. list_any p (f y)) same ∙ e)
any_flat f p (z ∷ xs) (suc t) x here e = list_any-append p (f z) (flat_map f xs) ∙ or_right (list_any p (f z)) (list_any p (flat_map f xs)) (any_flat f p xs t x here e)
