-- The loop over a list of statements that gathers what is asked for.
use Rattle.std.proofs.Common.{◌≡◌, ℕ, ◌+◌, ◌<◌, ◌≤◌, Bool, true, Option, None, List, length, drop, get_or, sym, ap, ◌∙◌}
use Rattle.std.proofs.lemmas.List.{drop_all}
use Rattle.tpl_model.specs.declared.body.Stmt.{Stmt}
use Rattle.tpl_model.specs.declared.outcome.Outcome.TheVariants.{Returned}
use Rattle.tpl_model.specs.Statements.{Statement, Statements, Nothing, ◌⨾◌}
use Rattle.tpl_model.specs.Seen.{statement_of, statements_of}
use Rattle.tpl_model.specs.Knowledge.{Knowledge, Reached, Reading, meet, join, through, behind, collected, collected_in, from}
use Rattle.tpl_model.proofs.Lists.{split_at}
use Rattle.tpl_paths.specs.declared.asked.Asked.{Asked}
use Rattle.tpl_paths.specs.Asked.{ended, asked_at, known_by}
use Rattle.tpl_paths.specs.Gathered.{Gathered, past, past_all, past_either}
use Rattle.tpl_paths.proofs.Meets.{meet_none, meet_assoc, meet_turned}
use Rattle.tpl_paths.proofs.Taking.{same_reached}

-- after the statements before an index, what is left leads to the whole answer
pub record GatheredSoFar (a : Asked) (w : Reading) (body : Statements) (items : List Stmt) (index : ℕ) (before so_far : Gathered) : Type 0 where
  pub whole : statements_of items ≡ body
  pub left : past_all a w (statements_of (drop index items)) so_far ≡ past_all a w body before

-- paths with other things found
pub found_too : (r : Reached) (x y : Option Knowledge) → x ≡ y → let one : Gathered = record { reached = r; found = x } in let other : Gathered = record { reached = r; found = y } in one ≡ other
found_too r x y e = ap (λ s. let g : Gathered = record { reached = r; found = s } in g) e

past_more : (a : Asked) (w : Reading) (s : Statement) (rest : Statements) (g : Gathered) → past_all a w (s ⨾ rest) g ≡ past_all a w rest (past a w s g)
past_more a w s rest g =
    found_too (through w rest (behind w s g.reached)) _ _
    (sym (meet_assoc g.found (collected_in (asked_at a w) w s g.reached) (collected (asked_at a w) w rest (behind w s g.reached))))

past_nothing : (a : Asked) (w : Reading) (g : Gathered) → past_all a w Nothing g ≡ g
past_nothing a w g = found_too g.reached _ _ (meet_none g.found)

pub start : (a : Asked) (w : Reading) (body : Statements) (items : List Stmt) (before : Gathered) → statements_of items ≡ body → GatheredSoFar a w body items 0 before before
start a w body items before e = record { whole = e; left = ap (λ b. past_all a w b before) e }

pub step : (a : Asked) (w : Reading) (body : Statements) (items : List Stmt) (i : ℕ) (before so_far : Gathered) (x : Stmt) → i < length items → x ≡ get_or items i x → GatheredSoFar a w body items i before so_far
    → GatheredSoFar a w body items (i + 1) before (past a w (statement_of x) so_far)
step a w body items i before so_far x lt is at = record {
  whole = at.whole;
  left =
      sym (past_more a w (statement_of x) (statements_of (drop (i + 1) items)) so_far)
      ∙ (ap (λ b. past_all a w b so_far) (sym (split_at items i x lt is)) ∙ at.left);
}

pub finish : (a : Asked) (w : Reading) (body : Statements) (items : List Stmt) (i : ℕ) (before so_far : Gathered) → length items ≤ i → GatheredSoFar a w body items i before so_far → so_far ≡ past_all a w body before
finish a w body items i before so_far le at =
    sym (past_nothing a w so_far) ∙ (ap (λ l. past_all a w (statements_of l) so_far) (sym (drop_all i items le)) ∙ at.left)

-- paths with other parts
pub same_gathered : (r q : Reached) (x y : Option Knowledge) → r ≡ q → x ≡ y → let one : Gathered = record { reached = r; found = x } in let other : Gathered = record { reached = q; found = y } in one ≡ other
same_gathered r q x y e f = ap (λ s. let g : Gathered = record { reached = s; found = x } in g) e ∙ found_too q x y f

-- each list is walked from the same paths, the second with nothing found before
pub both_lists : (a : Asked) (w : Reading) (first second : Statements) (g one other joined : Gathered) → one ≡ past_all a w first g → other ≡ past_all a w second (record { reached = g.reached; found = None })
    → joined ≡ record { reached = join one.reached other.reached; found = meet one.found other.found } → joined ≡ past_either true first true second a w g
both_lists a w first second g one other joined e f j =
    j
    ∙ (ap (λ (x : Gathered). let y : Gathered = record { reached = join x.reached other.reached; found = meet x.found other.found } in y) e
    ∙ (ap (λ (x : Gathered). let y : Gathered = record { reached = join (through w first g.reached) x.reached; found = meet (meet g.found (collected (asked_at a w) w first g.reached)) x.found } in y) f
    ∙ found_too (join (through w first g.reached) (through w second g.reached)) _ _ (meet_assoc g.found (collected (asked_at a w) w first g.reached) (collected (asked_at a w) w second g.reached))))

-- two lists that may be taken, in either order
pub either_turned : (a : Asked) (w : Reading) (first second : Statements) (g : Gathered) → past_either true first true second a w g ≡ past_either true second true first a w g
either_turned a w first second g =
    same_gathered _ _ _ _ (same_reached _ _ _ _ (meet_turned (through w first g.reached).unburdened (through w second g.reached).unburdened) (meet_turned (through w first g.reached).burdened (through w second g.reached).burdened))
    (ap (meet g.found) (meet_turned (collected (asked_at a w) w first g.reached) (collected (asked_at a w) w second g.reached)))

-- what is asked for of a whole body
pub by_walk : (a : Asked) (w : Reading) (tokens : ℕ → Bool) (body : Statements) (g : Gathered) → g ≡ past_all a w body (record { reached = from tokens; found = None }) → meet g.found (ended a Returned g.reached) ≡ known_by a w tokens body
by_walk a w tokens body g e = ap (λ (x : Gathered). meet x.found (ended a Returned x.reached)) e
