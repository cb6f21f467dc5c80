-- A leaf without a fault is accepted, and one that is accepted has none.
use Rattle.std.proofs.Common.{◌≡◌, ℕ, ◌<◌, ◌&&◌, Bool, true, false, Option, Some, None, List, [], ◌∷◌, length, nat_lt, refl, arith}
use Rattle.std.proofs.lemmas.Bool.{ltb-true, and_parts, and_from}
use Rattle.tpl_model.specs.Graph.{TaskGraph}
use Rattle.tpl_model.specs.Valid.{IsGraph}
use Rattle.tpl_model.specs.declared.ids.TaskId.{TaskId}
use Rattle.tpl_model.specs.declared.claim.Property.{Property}
use Rattle.tpl_model.specs.Certificate.{PlainRow, Row, plain, Assumed, AcceptsTree, RowsLeaf, AllTasks, IdsOfRows}
use Rattle.tpl_laws.specs.ClaimTests.{proves}
use Rattle.tpl_laws.specs.Decided.{FirstBrokenIsRight, ProvesIsRight}
use Rattle.tpl_laws.specs.Verdict.{LeafFault, ProvesNot, or_else, unless, first_broken, leaf_fault, has_tasks, rows_fit, are_plain}
use Rattle.tpl_laws.proofs.PlainFaults.{plain_decided}

is_below : (a m : ℕ) → a < m → nat_lt a m ≡ true
is_below a m h = grind arith

tasks_of : (g : TaskGraph) (xs : List ℕ) → has_tasks g xs ≡ true → AllTasks g xs
tasks_of g [] e = tt
tasks_of g (x ∷ xs) e =
    let s = and_parts (nat_lt x (length g.tasks)) (has_tasks g xs) e in
    (ltb-true x (length g.tasks) s.0, tasks_of g xs s.1)

of_tasks : (g : TaskGraph) (xs : List ℕ) → AllTasks g xs → has_tasks g xs ≡ true
of_tasks g [] a = refl
of_tasks g (x ∷ xs) a = and_from (nat_lt x (length g.tasks)) (has_tasks g xs) (is_below x (length g.tasks) a.0) (of_tasks g xs a.1)

ids_of : (g : TaskGraph) (rows : List PlainRow) → rows_fit g rows ≡ true → IdsOfRows g rows
ids_of g [] e = tt
ids_of g (r ∷ rows) e =
    let s = and_parts (has_tasks g r.before && (has_tasks g r.past && has_tasks g r.chain)) (rows_fit g rows) e in
    let p = and_parts (has_tasks g r.before) (has_tasks g r.past && has_tasks g r.chain) s.0 in
    let q = and_parts (has_tasks g r.past) (has_tasks g r.chain) p.1 in
    (tasks_of g r.before p.0, tasks_of g r.past q.0, tasks_of g r.chain q.1, ids_of g rows s.1)

of_ids : (g : TaskGraph) (rows : List PlainRow) → IdsOfRows g rows → rows_fit g rows ≡ true
of_ids g [] a = refl
of_ids g (r ∷ rows) a =
    and_from (has_tasks g r.before && (has_tasks g r.past && has_tasks g r.chain)) (rows_fit g rows)
    (and_from (has_tasks g r.before) (has_tasks g r.past && has_tasks g r.chain) (of_tasks g r.before a.0)
    (and_from (has_tasks g r.past) (has_tasks g r.chain) (of_tasks g r.past a.1) (of_tasks g r.chain a.2)))
    (of_ids g rows a.3)

neither : (a : Option LeafFault) (b : Bool) → or_else a (unless b ProvesNot None) ≡ None → (a ≡ None) × (b ≡ true)
neither None true e = (refl, refl)
neither None false e = absurd (cc)
neither (Some x) b e = absurd (cc)

none : (a : Option LeafFault) (b : Bool) → a ≡ None → b ≡ true → or_else a (unless b ProvesNot None) ≡ None
none None true e f = refl
none None false e f = absurd (cc)
none (Some x) b e f = absurd (cc)

module _ (g : TaskGraph) (p : Property TaskId) (l : Assumed) (rows : List Row) (graph : IsGraph g) (closed : FirstBrokenIsRight) (proved : ProvesIsRight) where
  pub accepted : length rows ≡ length g.tasks → rows_fit g (plain rows) ≡ true → are_plain rows ≡ true → leaf_fault g p l (plain rows) ≡ None → AcceptsTree g p l (RowsLeaf rows)
  accepted all ids none e =
      let s = neither (first_broken g l (plain rows) 0 (length g.tasks)) (proves g l (plain rows) p) e in
      (all, ids_of g (plain rows) ids, (closed g l (plain rows) graph).0 s.0, (proved g l (plain rows) p).0 s.1, (plain_decided rows).0 none)

  pub without_fault : AcceptsTree g p l (RowsLeaf rows) → leaf_fault g p l (plain rows) ≡ None
  without_fault a = none (first_broken g l (plain rows) 0 (length g.tasks)) (proves g l (plain rows) p) ((closed g l (plain rows) graph).1 a.2) ((proved g l (plain rows) p).1 a.3)

  pub fitting : AcceptsTree g p l (RowsLeaf rows) → rows_fit g (plain rows) ≡ true
  fitting a = of_ids g (plain rows) a.1

  pub is_plain : AcceptsTree g p l (RowsLeaf rows) → are_plain rows ≡ true
  is_plain a = (plain_decided rows).1 a.4
