-- How the bodies may end, and which children they may start, body by body.
use Rattle.std.proofs.Common.{◌≡◌, ℕ, suc, ◌+◌, ◌<◌, ◌↔◌, ◌&&◌, ◌||◌, inl, inr, Bool, true, false, Some, List, [], ◌∷◌, length, refl, sym, ap, ◌∙◌, subst, nat_eq, nat_lt, arith}
use Rattle.std.proofs.lemmas.Bool.Decides.{eqb_tells}
use Rattle.std.proofs.lemmas.Bool.{eqb-true, cases_Bool, or_cases, and_parts}
use Rattle.tpl_laws.proofs.Settling.{child_task}
use Rattle.tpl_model.proofs.MemberLemmas.{mem_here, mem_left, mem_right}
use Rattle.tpl_model.proofs.Truths.{true_false, same_tests}
use Rattle.tpl_model.proofs.PathEnds.{is_acknowledged, is_returned, thrown_label}
use Rattle.tpl_model.proofs.Through.{no_clean}
use Rattle.tpl_model.specs.Members.{mem}
use Rattle.tpl_model.specs.declared.outcome.Outcome.TheVariants.{Returned, Threw, Acknowledged}
use Rattle.tpl_model.specs.Statements.{Statement, Statements, Return, Throw, Check, Cancel, Start, Observe, Work, If, When, Nothing, ◌⨾◌, starts, starts_of}
use Rattle.tpl_model.specs.Paths.{Known, Path, MayEnd, MayThrow, MayStartChild}
use Rattle.tpl_model.specs.Recursion.{may, none, is_throw, passes_by, another, reaches, reaches_in, MayIsRight, MayStartIsRight}
use Rattle.tpl_model.specs.Graph.{TaskGraph, body, IsParent}
use Rattle.tpl_model.specs.Valid.{IsGraph}
use Rattle.tpl_model.specs.Certificate.{PlainRow, Assumed, view}
use Rattle.tpl_laws.specs.RowTests.{is_return, is_acknowledgement}
use Rattle.tpl_checker.specs.declared.bodies.Bodies.{Bodies}
use Rattle.tpl_checker.specs.Bodies.{AreFirstBodies}
use Rattle.tpl_checker.proofs.ChildLemmas.{parent_is_task}

module _ (law : MayIsRight) (w : Known) (script : Statements) (r : Bool) where
  pub returned_is : (r ≡ true) ↔ MayEnd w script Returned → r ≡ may none is_return w script
  returned_is d = same_tests r (may none is_return w script)
      (λ e. let m = d.0 e in (law none is_return w script).1 (m.0, Returned, m.1, refl, no_clean m.0))
      (λ e. let p = (law none is_return w script).0 e in d.1 (p.0, subst (λ z. Path w script p.0 (Some z)) (is_returned p.1 p.3) p.2))

  pub acknowledged_is : (r ≡ true) ↔ MayEnd w script Acknowledged → r ≡ may none is_acknowledgement w script
  acknowledged_is d = same_tests r (may none is_acknowledgement w script)
      (λ e. let m = d.0 e in (law none is_acknowledgement w script).1 (m.0, Acknowledged, m.1, refl, no_clean m.0))
      (λ e. let p = (law none is_acknowledgement w script).0 e in d.1 (p.0, subst (λ z. Path w script p.0 (Some z)) (is_acknowledged p.1 p.3) p.2))

  pub thrown_is : (r ≡ true) ↔ MayThrow w script → r ≡ may none is_throw w script
  thrown_is d = same_tests r (may none is_throw w script)
      (λ e. let m = d.0 e in (law none is_throw w script).1 (m.1.0, Threw m.0, m.1.1, refl, no_clean m.1.0))
      (λ e.
      let p = (law none is_throw w script).0 e in
      let label = thrown_label p.1 p.3 in
      d.1 (label.0, (p.0, subst (λ z. Path w script p.0 (Some z)) label.1 p.2)))

-- a child that is reached is started in the text
mutual
  reaches_starts : (c : ℕ) (w : Known) (b : Statements) → reaches c w b ≡ true → mem c (starts b) ≡ true
  reaches_starts c w Nothing e = true_false (sym e)
  reaches_starts c w (s ⨾ rest) e = elim (or_cases (reaches_in c w s) (passes_by none w s && reaches c w rest) e) [
    | inl p ↦ mem_left c (starts_of s) (starts rest) (reaches_in_starts c w s p)
    | inr p ↦ mem_right c (starts_of s) (starts rest) (reaches_starts c w rest (and_parts (passes_by none w s) (reaches c w rest) p).1)
  ]

  reaches_in_starts : (c : ℕ) (w : Known) (s : Statement) → reaches_in c w s ≡ true → mem c (starts_of s) ≡ true
  reaches_in_starts c w Return e = true_false (sym e)
  reaches_in_starts c w (Throw l) e = true_false (sym e)
  reaches_in_starts c w (Check k) e = true_false (sym e)
  reaches_in_starts c w (Cancel k) e = true_false (sym e)
  reaches_in_starts c w (Start d) e = subst (λ z. mem z (d ∷ []) ≡ true) (eqb-true d c e) (mem_here d [])
  reaches_in_starts c w Observe e = true_false (sym e)
  reaches_in_starts c w (Work site b) e = true_false (sym e)
  reaches_in_starts c w (If i first second) e = elim (or_cases (w.possible i true && reaches c w first) (w.possible i false && reaches c w second) e) [
    | inl p ↦ mem_left c (starts first) (starts second) (reaches_starts c w first (and_parts (w.possible i true) (reaches c w first) p).1)
    | inr p ↦ mem_right c (starts first) (starts second) (reaches_starts c w second (and_parts (w.possible i false) (reaches c w second) p).1)
  ]
  reaches_in_starts c w (When f first second) e = elim (or_cases (w.subject f && reaches c w first) (another w f && reaches c w second) e) [
    | inl p ↦ mem_left c (starts first) (starts second) (reaches_starts c w first (and_parts (w.subject f) (reaches c w first) p).1)
    | inr p ↦ mem_right c (starts first) (starts second) (reaches_starts c w second (and_parts (another w f) (reaches c w second) p).1)
  ]

-- below one more
lt_self : (t : ℕ) → nat_lt t t ≡ false
lt_self t = grind arith

pub lt_next : (t : ℕ) → nat_lt t (suc t) ≡ true
lt_next t = grind arith

pub lt_other : (x t : ℕ) → (x ≡ t → ⊥) → nat_lt x (suc t) ≡ nat_lt x t
lt_other x t n = grind arith

-- a set that the task t joins where the test says so
pub member_step : (test : ℕ → Bool) (t x : ℕ) (v old new : Bool) → v ≡ test t → old ≡ (nat_lt x t && test x) → new ≡ ((v && nat_eq x t) || old) → new ≡ (nat_lt x (suc t) && test x)
member_step test t x v old new is so_far e = elim (eqb_tells x t) [
  | inl (q, same) ↦
      e ∙ (ap (λ z. (v && z) || old) q ∙ (ap (λ z. (z && true) || old) is
      ∙ (ap (λ z. (test t && true) || z) (so_far ∙ (ap (λ z. nat_lt z t && test z) same ∙ ap (λ z. z && test t) (lt_self t)))
      ∙ (simple (test t) ∙ (ap (λ z. z && test t) (sym (lt_next t)) ∙ ap (λ z. nat_lt z (suc t) && test z) (sym same))))))
  | inr (q, other) ↦
      e ∙ (ap (λ z. (v && z) || old) q ∙ (no v old ∙ (so_far ∙ ap (λ z. z && test x) (sym (lt_other x t other)))))
]
  where
    simple : (b : Bool) → ((b && true) || false) ≡ (true && b)
    simple true = refl
    simple false = refl

    no : (a b : Bool) → ((a && false) || b) ≡ b
    no true b = refl
    no false b = refl

module _ (g : TaskGraph) (l : Assumed) (rows : List PlainRow) (valid : IsGraph g) (law : MayStartIsRight) where
  -- the children of all, with those of the task t
  pub started_step : (t p c : ℕ) (old fresh new : Bool) → IsParent g p c → (c < 1024 → (fresh ≡ true) ↔ MayStartChild (view g l rows t) (body g t) c) → old ≡ (nat_lt p t && reaches c (view g l rows p) (body g p)) → new ≡ (old || fresh) → new ≡ (nat_lt p (suc t) && reaches c (view g l rows p) (body g p))
  started_step t p c old fresh new parent d so_far e =
      let is : fresh ≡ reaches c (view g l rows t) (body g t) = same_tests fresh (reaches c (view g l rows t) (body g t)) (λ q. (law c (view g l rows t) (body g t)).1 ((d small).0 q)) (λ q. (d small).1 ((law c (view g l rows t) (body g t)).0 q)) in
      elim (eqb_tells p t) [
        | inl (q, same) ↦
            e ∙ (ap (λ z. z || fresh) (so_far ∙ (ap (λ z. nat_lt z t && reaches c (view g l rows z) (body g z)) same ∙ ap (λ z. z && reaches c (view g l rows t) (body g t)) (lt_self t)))
            ∙ (is ∙ (ap (λ z. z && reaches c (view g l rows t) (body g t)) (sym (lt_next t)) ∙ ap (λ z. nat_lt z (suc t) && reaches c (view g l rows z) (body g z)) (sym same))))
        | inr (q, other) ↦
            e ∙ (ap (λ z. old || z) (is ∙ not_there other)
            ∙ (or_false old ∙ (so_far ∙ ap (λ z. z && reaches c (view g l rows p) (body g p)) (sym (lt_other p t other)))))
      ]
    where
      small : c < 1024
      small = omega (arith, child_task g p c valid parent, valid.tasks)

      or_false : (b : Bool) → (b || false) ≡ b
      or_false true = refl
      or_false false = refl

      not_there : (p ≡ t → ⊥) → reaches c (view g l rows t) (body g t) ≡ false
      not_there other = elim (cases_Bool (reaches c (view g l rows t) (body g t))) [
        | inl q ↦ absurd (other ((valid.each c (child_task g p c valid parent)).one_parent p t parent (reaches_starts c (view g l rows t) (body g t) q)))
        | inr q ↦ q
      ]

-- of no task
pub no_bodies : (g : TaskGraph) (l : Assumed) (rows : List PlainRow) (b : Bodies) → b.returned ≡ [] → b.thrown ≡ [] → b.acknowledged ≡ [] → b.started ≡ [] → AreFirstBodies g l rows 0 b
no_bodies g l rows b r t a s = record {
  returned = λ x. ap (mem x) r ∙ none_below x (may none is_return (view g l rows x) (body g x));
  thrown = λ x. ap (mem x) t ∙ none_below x (may none is_throw (view g l rows x) (body g x));
  acknowledged = λ x. ap (mem x) a ∙ none_below x (may none is_acknowledgement (view g l rows x) (body g x));
  started = λ p c m. ap (mem c) s ∙ none_below p (reaches c (view g l rows p) (body g p));
}
  where
    none_lt : (x : ℕ) → nat_lt x 0 ≡ false
    none_lt x = grind arith

    none_below : (x : ℕ) (b : Bool) → false ≡ (nat_lt x 0 && b)
    none_below x b = ap (λ z. z && b) (sym (none_lt x))

-- of all tasks
module _ (g : TaskGraph) (l : Assumed) (rows : List PlainRow) (b : Bodies) (bodies : AreFirstBodies g l rows (length g.tasks) b) where
  lt_tasks : (t : ℕ) (x : Bool) → t < length g.tasks → (nat_lt t (length g.tasks) && x) ≡ x
  lt_tasks t x lt = ap (λ z. z && x) (yes t (length g.tasks) lt)
    where
      yes : (a n : ℕ) → a < n → nat_lt a n ≡ true
      yes a n lt = grind arith

  pub returned_of : (t : ℕ) → t < length g.tasks → mem t b.returned ≡ may none is_return (view g l rows t) (body g t)
  returned_of t lt = bodies.returned t ∙ lt_tasks t (may none is_return (view g l rows t) (body g t)) lt

  pub thrown_of : (t : ℕ) → t < length g.tasks → mem t b.thrown ≡ may none is_throw (view g l rows t) (body g t)
  thrown_of t lt = bodies.thrown t ∙ lt_tasks t (may none is_throw (view g l rows t) (body g t)) lt

  pub acknowledged_of : (t : ℕ) → t < length g.tasks → mem t b.acknowledged ≡ may none is_acknowledgement (view g l rows t) (body g t)
  acknowledged_of t lt = bodies.acknowledged t ∙ lt_tasks t (may none is_acknowledgement (view g l rows t) (body g t)) lt

  pub started_of : (p c : ℕ) → IsParent g p c → mem c b.started ≡ reaches c (view g l rows p) (body g p)
  started_of p c m = bodies.started p c m ∙ lt_tasks p (reaches c (view g l rows p) (body g p)) (parent_is_task g p c m)

next_bodies : (t : ℕ) → suc t ≡ t + 1
next_bodies t = omega arith

-- with the task t
pub with_body : (g : TaskGraph) (l : Assumed) (rows : List PlainRow) (t : ℕ) (b : Bodies) → AreFirstBodies g l rows (suc t) b → AreFirstBodies g l rows (t + 1) b
with_body g l rows t b first = subst (λ n. AreFirstBodies g l rows n b) (next_bodies t) first
