-- What the statements of a body say of the body with ids.
use Rattle.std.proofs.Common.{◌≡◌, ℕ, ◌<◌, Bool, true, false, ◌++◌, List, ◌∷◌, length, flat_map, refl, sym, ap, ◌∙◌, arith}
use Rattle.std.specs.List.{list_any}
use Rattle.std.proofs.lemmas.List.Folds.{list_any-append}
use Rattle.std.proofs.lemmas.Bool.{and_from, not-false}
use Rattle.tpl_model.proofs.Truths.{or_first, or_second}
use Rattle.tpl_model.specs.Statements.{starts, starts_of, reads_nothing, reads_nothing_in}
use Rattle.tpl_model.specs.Graph.{TaskGraph}
use Rattle.tpl_model.specs.Valid.{IdsOf, IdsWithin}
use Rattle.tpl_draft.specs.Draft.{Line, Lines, Check, Cancel, Start, Observe, If, When, Nothing, Then, each_of, each_within}
use Rattle.tpl_draft.specs.Named.{Names}
use Rattle.tpl_draft.specs.Names.{has_name, place}
use Rattle.tpl_draft.specs.Numbered.{script_in, statement_in}
use Rattle.tpl_graph.specs.Collected.{start_in}
use Rattle.tpl_draft.specs.Refusals.{says_unknown, lacks, reads_subject}
use Rattle.tpl_graph.proofs.PlaceLaws.{place_within}
use Rattle.tpl_graph.proofs.CollectLemmas.{flat_map_append}

-- no statement of two lists passes the test, so none of either does
any_left : (p : Line → Bool) (xs ys : List Line) → list_any p (xs ++ ys) ≡ false → list_any p xs ≡ false
any_left p xs ys e = or_first (list_any p xs) (list_any p ys) (sym (list_any-append p xs ys) ∙ e)

any_right : (p : Line → Bool) (xs ys : List Line) → list_any p (xs ++ ys) ≡ false → list_any p ys ≡ false
any_right p xs ys e = or_second (list_any p xs) (list_any p ys) (sym (list_any-append p xs ys) ∙ e)

known : (names : List (List ℕ)) (x : List ℕ) → lacks names x ≡ false → place names x < length names
known names x e = place_within names x (not-false (has_name names x) e)

-- the ids of a body are the graph's
module _ (n : Names) (g : TaskGraph) (tokens : length n.tokens ≡ length g.tokens) (inputs : length n.inputs ≡ g.inputs) (tasks : length n.tasks ≡ length g.tasks) where
  abbrev unknown : Line → Bool
  unknown s = says_unknown n.inputs n.tokens n.tasks s

  mutual
    pub ids_of : (b : Lines) → list_any unknown (each_of b) ≡ false → IdsOf g (script_in n b)
    ids_of Nothing e = tt
    ids_of (Then s rest) e =
        let inside = or_second (unknown s) (list_any unknown (each_within s ++ each_of rest)) e in
        (ids_within s (or_first (unknown s) (list_any unknown (each_within s ++ each_of rest)) e) (any_left unknown (each_within s) (each_of rest) inside), ids_of rest (any_right unknown (each_within s) (each_of rest) inside))

    ids_within : (s : Line) → unknown s ≡ false → list_any unknown (each_within s) ≡ false → IdsWithin g (statement_in n s)
    ids_within (Check k) e f = omega (arith, known n.tokens k e, tokens)
    ids_within (Cancel k) e f = omega (arith, known n.tokens k e, tokens)
    ids_within (Start c) e f = omega (arith, known n.tasks c e, tasks)
    ids_within (If i a b) e f =
        (omega (arith, known n.inputs i e, inputs), ids_of a (any_left unknown (each_of a) (each_of b) f), ids_of b (any_right unknown (each_of a) (each_of b) f))
    ids_within (When x a b) e f =
        (ids_of a (any_left unknown (each_of a) (each_of b) f), ids_of b (any_right unknown (each_of a) (each_of b) f))
    ids_within s e f = tt

mutual
  pub reads_none : (n : Names) (b : Lines) → list_any reads_subject (each_of b) ≡ false → reads_nothing (script_in n b) ≡ true
  reads_none n Nothing e = refl
  reads_none n (Then s rest) e =
      let inside = or_second (reads_subject s) (list_any reads_subject (each_within s ++ each_of rest)) e in
      and_from (reads_nothing_in (statement_in n s)) (reads_nothing (script_in n rest))
      (reads_none_in n s (or_first (reads_subject s) (list_any reads_subject (each_within s ++ each_of rest)) e) (any_left reads_subject (each_within s) (each_of rest) inside))
      (reads_none n rest (any_right reads_subject (each_within s) (each_of rest) inside))

  reads_none_in : (n : Names) (s : Line) → reads_subject s ≡ false → list_any reads_subject (each_within s) ≡ false → reads_nothing_in (statement_in n s) ≡ true
  reads_none_in n Observe e f = absurd (cc)
  reads_none_in n (If i a b) e f =
      and_from (reads_nothing (script_in n a)) (reads_nothing (script_in n b)) (reads_none n a (any_left reads_subject (each_of a) (each_of b) f)) (reads_none n b (any_right reads_subject (each_of a) (each_of b) f))
  reads_none_in n (When x a b) e f = absurd (cc)
  reads_none_in n s e f = refl

-- the tasks that a body starts
pub append_both : (a b c d : List ℕ) → a ≡ c → b ≡ d → (a ++ b) ≡ (c ++ d)
append_both a b c d e f = ap (λ x. x ++ b) e ∙ ap (λ x. c ++ x) f

mutual
  pub starts_script : (n : Names) (b : Lines) → starts (script_in n b) ≡ flat_map (start_in n.tasks) (each_of b)
  starts_script n Nothing = refl
  starts_script n (Then s rest) =
      append_both (starts_of (statement_in n s)) (starts (script_in n rest)) (flat_map (start_in n.tasks) (s ∷ each_within s)) (flat_map (start_in n.tasks) (each_of rest)) (starts_statement n s) (starts_script n rest)
      ∙ sym (flat_map_append (start_in n.tasks) (s ∷ each_within s) (each_of rest))

  starts_statement : (n : Names) (s : Line) → starts_of (statement_in n s) ≡ flat_map (start_in n.tasks) (s ∷ each_within s)
  starts_statement n (If i a b) =
      append_both (starts (script_in n a)) (starts (script_in n b)) (flat_map (start_in n.tasks) (each_of a)) (flat_map (start_in n.tasks) (each_of b)) (starts_script n a) (starts_script n b)
      ∙ sym (flat_map_append (start_in n.tasks) (each_of a) (each_of b))
  starts_statement n (When f a b) =
      append_both (starts (script_in n a)) (starts (script_in n b)) (flat_map (start_in n.tasks) (each_of a)) (flat_map (start_in n.tasks) (each_of b)) (starts_script n a) (starts_script n b)
      ∙ sym (flat_map_append (start_in n.tasks) (each_of a) (each_of b))
  starts_statement n s = refl
