-- The loops over a list of statements that look for the start of children.
use Rattle.std.proofs.Common.{◌≡◌, ℕ, ◌+◌, ◌<◌, ◌≤◌, Bool, true, false, ◌&&◌, ◌||◌, List, [], length, drop, get_or, nat_lt, refl, sym, ap, ◌∙◌}
use Rattle.std.proofs.lemmas.List.{drop_all}
use Rattle.std.specs.Prelude.{◌↔◌}
use Rattle.tpl_model.proofs.Truths.{and_assoc, and_true}
use Rattle.tpl_model.proofs.EndsSoFar.{or_with, or_nothing, or_nothing as nothing_found}
use Rattle.tpl_model.specs.Members.{mem}
use Rattle.tpl_model.specs.TaskSet.{IsTaskSet}
use Rattle.tpl_model.specs.declared.body.Stmt.{Stmt}
use Rattle.tpl_model.specs.declared.starts.Starts.{Starts}
use Rattle.tpl_model.specs.Statements.{Statements}
use Rattle.tpl_model.specs.Seen.{statement_of, statements_of}
use Rattle.tpl_model.specs.Paths.{Known, MayStartChild}
use Rattle.tpl_model.specs.Recursion.{gets_through, passes_by, none, reaches, reaches_in}
use Rattle.tpl_model.specs.Starts.{then_starts, start_in, start_at, Adds}
use Rattle.tpl_model.proofs.Lists.{split_at}
use Rattle.tpl_model.proofs.Through.{start_lem}

-- after the statements before an index, what is left gives the whole answer
pub record StartsSoFar (c : ℕ) (w : Known) (body : Statements) (items : List Stmt) (index : ℕ) (so_far : Starts) : Type 0 where
  pub whole : statements_of items ≡ body
  pub left : then_starts so_far (start_in c w (statements_of (drop index items))) ≡ start_in c w body

made : {a b x y : Bool} → a ≡ x → b ≡ y → let one : Starts = record { goes_on = a; started = b } in let other : Starts = record { goes_on = x; started = y } in one ≡ other
made {a} {b} {x} {y} e f =
    ap (λ v. let r : Starts = record { goes_on = v; started = b } in r) e
    ∙ ap (λ v. let r : Starts = record { goes_on = x; started = v } in r) f

then_starts_assoc : (a b c : Starts) → then_starts (then_starts a b) c ≡ then_starts a (then_starts b c)
then_starts_assoc a b c = made (and_assoc a.goes_on b.goes_on c.goes_on) (or_with a.started a.goes_on b.started b.goes_on c.started)

pub start : (c : ℕ) (w : Known) (body : Statements) (items : List Stmt) → statements_of items ≡ body → StartsSoFar c w body items 0 (record { goes_on = true; started = false })
start c w body items e = record { whole = e; left = ap (start_in c w) e }

pub step : (c : ℕ) (w : Known) (body : Statements) (items : List Stmt) (i : ℕ) (so_far : Starts) (x : Stmt) → i < length items → x ≡ get_or items i x → StartsSoFar c w body items i so_far → StartsSoFar c w body items (i + 1) (then_starts so_far (start_at c w (statement_of x)))
step c w body items i so_far x lt is at = record {
  whole = at.whole;
  left =
      then_starts_assoc so_far (start_at c w (statement_of x)) (start_in c w (statements_of (drop (i + 1) items)))
      ∙ (ap (λ b. then_starts so_far (start_in c w b)) (sym (split_at items i x lt is)) ∙ at.left);
}

pub finish : (c : ℕ) (w : Known) (body : Statements) (items : List Stmt) (i : ℕ) (so_far : Starts) → length items ≤ i → StartsSoFar c w body items i so_far → so_far ≡ start_in c w body
finish c w body items i so_far le at =
    sym (made (and_true so_far.goes_on) (or_nothing so_far.started so_far.goes_on))
    ∙ (ap (λ l. then_starts so_far (start_in c w (statements_of l))) (sym (drop_all i items le)) ∙ at.left)

pub may_start_lem : (w : Known) (b : Statements) (c : ℕ) (r : Bool) → r ≡ reaches c w b → (r ≡ true) ↔ MayStartChild w b c
may_start_lem w b c r e = (λ t. (start_lem c w b).0 (sym e ∙ t), λ p. e ∙ (start_lem c w b).1 p)

-- after the statements before an index, what is left gives the whole answer, and the set has what was met
pub record AddsSoFar (w : Known) (body : Statements) (items : List Stmt) (index : ℕ) (old now : List ℕ) : Type 0 where
  pub whole : statements_of items ≡ body
  pub on : gets_through none w body ≡ gets_through none w (statements_of (drop index items))
  pub found : (x : ℕ) → (mem x old || (nat_lt x 1024 && reaches x w body)) ≡ (mem x now || (nat_lt x 1024 && reaches x w (statements_of (drop index items))))
  pub set : IsTaskSet old → IsTaskSet now

pub adds_start : (w : Known) (body : Statements) (items : List Stmt) (old : List ℕ) → statements_of items ≡ body → AddsSoFar w body items 0 old old
adds_start w body items old e = record {
  whole = e;
  on = ap (gets_through none w) (sym e);
  found = λ x. ap (λ b. mem x old || (nat_lt x 1024 && reaches x w b)) (sym e);
  set = λ h. h;
}

more_found : (m t r x : Bool) → (m || (t && (r || x))) ≡ ((m || (t && r)) || (t && x))
more_found true t r x = refl
more_found false false r x = refl
more_found false true r x = refl

last_found : (m t r x : Bool) → (m || (t && (r || (false && x)))) ≡ (m || (t && r))
last_found true t r x = refl
last_found false false r x = refl
last_found false true true x = refl
last_found false true false x = refl

-- what is left at a statement is the statement, and where it is passed what is left behind it
module _ (w : Known) (body : Statements) (items : List Stmt) (i : ℕ) (old now : List ℕ) (s : Stmt) (lt : i < length items) (is : s ≡ get_or items i s) (at : AddsSoFar w body items i old now) where
  abbrev rest : Statements
  rest = statements_of (drop (i + 1) items)

  on_at : (passes : Bool) → passes_by none w (statement_of s) ≡ passes → gets_through none w body ≡ (passes && gets_through none w rest)
  on_at passes e = at.on ∙ (ap (gets_through none w) (split_at items i s lt is) ∙ ap (λ p. p && gets_through none w rest) e)

  found_at : (passes : Bool) → passes_by none w (statement_of s) ≡ passes → (x : ℕ) → (mem x old || (nat_lt x 1024 && reaches x w body)) ≡ (mem x now || (nat_lt x 1024 && (reaches_in x w (statement_of s) || (passes && reaches x w rest))))
  found_at passes e x =
      at.found x
      ∙ (ap (λ b. mem x now || (nat_lt x 1024 && reaches x w b)) (split_at items i s lt is)
      ∙ ap (λ p. mem x now || (nat_lt x 1024 && (reaches_in x w (statement_of s) || (p && reaches x w rest)))) e)

  pub adds_step : (new : List ℕ) → passes_by none w (statement_of s) ≡ true → Adds now new (λ x. reaches_in x w (statement_of s)) → AddsSoFar w body items (i + 1) old new
  adds_step new on adds = record {
    whole = at.whole;
    on = on_at true on;
    found = λ x.
        found_at true on x
        ∙ (more_found (mem x now) (nat_lt x 1024) (reaches_in x w (statement_of s)) (reaches x w rest)
        ∙ ap (λ m. m || (nat_lt x 1024 && reaches x w rest)) (sym (adds.members x)));
    set = λ h. adds.set (at.set h);
  }

  -- no path goes on behind the statement
  pub adds_stop : (new : List ℕ) → passes_by none w (statement_of s) ≡ false → Adds now new (λ x. reaches_in x w (statement_of s)) → (false ≡ gets_through none w body) × Adds old new (λ x. reaches x w body)
  adds_stop new on adds = (
    sym (on_at false on),
    record {
      members = λ x. adds.members x ∙ sym (found_at false on x ∙ last_found (mem x now) (nat_lt x 1024) (reaches_in x w (statement_of s)) (reaches x w rest));
      set = λ h. adds.set (at.set h);
    },
  )

pub adds_finish : (w : Known) (body : Statements) (items : List Stmt) (i : ℕ) (old now : List ℕ) → length items ≤ i → AddsSoFar w body items i old now → (true ≡ gets_through none w body) × Adds old now (λ x. reaches x w body)
adds_finish w body items i old now le at =
    let none_left : drop i items ≡ [] = drop_all i items le in (
      sym (at.on ∙ ap (λ l. gets_through none w (statements_of l)) none_left),
      record {
        members = λ x. sym (at.found x ∙ (ap (λ l. mem x now || (nat_lt x 1024 && reaches x w (statements_of l))) none_left ∙ nothing_found (mem x now) (nat_lt x 1024)));
        set = at.set;
      },
    )

pub adds_none : (old : List ℕ) (test : ℕ → Bool) → ((x : ℕ) → test x ≡ false) → Adds old old test
adds_none old test h = record {
  members = λ x. sym (ap (λ t. mem x old || (nat_lt x 1024 && t)) (h x) ∙ nothing_found (mem x old) (nat_lt x 1024));
  set = λ s. s;
}

both_found : (m t a b : Bool) → ((m || (t && a)) || (t && b)) ≡ (m || (t && (a || b)))
both_found true t a b = refl
both_found false false a b = refl
both_found false true a b = refl

-- one after another
pub adds_both : (old mid new : List ℕ) (first second : ℕ → Bool) → Adds old mid first → Adds mid new second → Adds old new (λ x. first x || second x)
adds_both old mid new first second f s = record {
  members = λ x. s.members x ∙ (ap (λ m. m || (nat_lt x 1024 && second x)) (f.members x) ∙ both_found (mem x old) (nat_lt x 1024) (first x) (second x));
  set = λ h. s.set (f.set h);
}
