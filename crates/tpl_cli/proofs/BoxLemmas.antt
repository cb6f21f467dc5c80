-- The boxes of a graph's work statements, one after another, and what prevents a run with them.
use Rattle.std.proofs.Common.{◌≡◌, ℕ, zero, suc, ◌+◌, ◌<◌, ◌≤◌, ◌∙◌, inl, inr, List, [], ◌∷◌, ◌++◌, Bool, true, false, refl, ap, sym, subst, length, map, arith, eq-or-lt_of_le}
use Rattle.std.specs.Prelude.{Option, Some, None, count_by, nat_eq, cond, if◌then◌else◌, slice_get, slice_index_or}
use Rattle.std.proofs.lemmas.Bool.{eq-eqb, eqb-true}
use Rattle.std.proofs.lemmas.List.{length-map, map-append}
use Rattle.std.proofs.lemmas.List.Sums.{sum_by-cons}
use Rattle.tpl_commands.specs.declared.exit.Exit.{Exit}
use Rattle.tpl_commands.specs.declared.exit.Exit.TheVariants.{Success, Failure, Usage, Unreadable, Memory, Device, Fault}
use Rattle.tpl_draft.specs.Named.{Named, all_may_fail, numbers_from}
use Rattle.tpl_graph.proofs.ReaderLemmas.{length-numbers_from}
use Rattle.tpl_items.specs.Items.{SayAt}
use Rattle.tpl_journal.specs.declared.counting.Counting.{Counting}
use Rattle.tpl_reader.specs.Document.{DocumentValue}
use Rattle.tpl_reader.specs.Starting.{inputs_of}
use Rattle.tpl_report.specs.Prevents.{Prevents, StopsSession}
use Rattle.tpl_report.specs.Running.{RunsFrom, ServesRun}
use Rattle.tpl_report.specs.declared.fault.RunFault.{RunFault}
use Rattle.tpl_report.specs.declared.fault.RunFault.TheVariants.{ItemMissing, ItemStrange, ItemTwice, MayFailDiffers, BadActor, SeatTaken, BadCount, Spawn, SeatsMissing, Mismatch}
use Rattle.tpl_report.specs.declared.telling.Telling.{Telling}

-- what the graph says of whether the job of a site may fail
abbrev pub fails_at : Named → ℕ → Bool
fails_at n s = slice_index_or (all_may_fail n.graph) s false

-- the items are those of the first sites, in order, and each says whether it may fail what is said of its site
pub record AreFirst {W : Type 0} (site : W → ℕ) (may_fail : W → Bool) (fails : ℕ → Bool) (count : ℕ) (items : List W) : Type 0 where
  pub sites : map site items ≡ numbers_from 0 count
  pub says : (s : ℕ) → SayAt site may_fail s (fails s) items

one_number_more : (n count : ℕ) → numbers_from n count ++ (n + count) ∷ [] ≡ numbers_from n (suc count)
one_number_more n zero = let same : n + 0 ≡ n = omega arith in ap (λ (k : ℕ). k ∷ []) same
one_number_more n (suc count) =
    let same : n + suc count ≡ suc n + count = omega arith in
    ap (λ l. n ∷ l) (ap (λ (k : ℕ). numbers_from (suc n) count ++ k ∷ []) same ∙ one_number_more (suc n) count)

-- counting a number in numbers that count up
counted : (s n count : ℕ) → count_by (nat_eq s) (numbers_from n (suc count)) ≡ cond (nat_eq s n) 1 0 + count_by (nat_eq s) (numbers_from (suc n) count)
counted s n count = sum_by-cons (λ x. cond (nat_eq s x) 1 0) n (numbers_from (suc n) count)

counted_here : (s n count : ℕ) → s ≡ n → count_by (nat_eq s) (numbers_from n (suc count)) ≡ 1 + count_by (nat_eq s) (numbers_from (suc n) count)
counted_here s n count same = counted s n count ∙ ap (λ (b : Bool). cond b 1 0 + count_by (nat_eq s) (numbers_from (suc n) count)) (eq-eqb s n same)

counted_past : (s n count : ℕ) → (s ≡ n → ⊥) → count_by (nat_eq s) (numbers_from n (suc count)) ≡ count_by (nat_eq s) (numbers_from (suc n) count)
counted_past s n count other = by (nat_eq s n) refl
  where
    by : (b : Bool) → nat_eq s n ≡ b → count_by (nat_eq s) (numbers_from n (suc count)) ≡ count_by (nat_eq s) (numbers_from (suc n) count)
    by true is = absurd (other (eqb-true s n is))
    by false is =
        let split : count_by (nat_eq s) (numbers_from n (suc count)) ≡ 0 + count_by (nat_eq s) (numbers_from (suc n) count) = counted s n count ∙ ap (λ (b : Bool). cond b 1 0 + count_by (nat_eq s) (numbers_from (suc n) count)) is in
        omega (arith, split)

none_below : (s n count : ℕ) → s < n → count_by (nat_eq s) (numbers_from n count) ≡ 0
none_below s n zero lt = refl
none_below s n (suc count) lt = counted_past s n count (λ same. absurd (omega arith)) ∙ none_below s (suc n) count (omega arith)

none_behind : (s n count : ℕ) → n + count ≤ s → count_by (nat_eq s) (numbers_from n count) ≡ 0
none_behind s n zero le = refl
none_behind s n (suc count) le = counted_past s n count (λ same. absurd (omega arith)) ∙ none_behind s (suc n) count (omega arith)

once : (s n count : ℕ) → n ≤ s → s < n + count → count_by (nat_eq s) (numbers_from n count) ≡ 1
once s n zero le lt = absurd (omega arith)
once s n (suc count) le lt = elim (eq-or-lt_of_le le) [
  | inl same ↦ omega (arith, counted_here s n count (sym same), none_below s (suc n) count (omega arith))
  | inr below ↦ counted_past s n count (λ same. absurd (omega arith)) ∙ once s (suc n) count (omega arith) (omega arith)
]

module _ {W : Type 0} (site : W → ℕ) (may_fail : W → Bool) where
  say_more : (s : ℕ) (fails : Bool) (items : List W) (x : W) → SayAt site may_fail s fails items → (site x ≡ s → may_fail x ≡ fails)
      → SayAt site may_fail s fails (items ++ x ∷ [])
  say_more s fails [] x say here = (here, tt)
  say_more s fails (y ∷ ys) x say here = (say.0, say_more s fails ys x say.1 here)

  -- what all items of the site say, each of them says
  said : (s : ℕ) (fails : Bool) (items : List W) (place : ℕ) (x : W) → SayAt site may_fail s fails items → slice_get items place ≡ Some x → site x ≡ s → may_fail x ≡ fails
  said s fails [] zero x say gets at = absurd (cc)
  said s fails [] (suc place) x say gets at = absurd (cc)
  said s fails (y ∷ ys) zero x say gets at =
      let same : y ≡ x = cc in
      ap may_fail (sym same) ∙ say.0 (ap site same ∙ at)
  said s fails (y ∷ ys) (suc place) x say gets at = said s fails ys place x say.1 gets at

  module _ (fails : ℕ → Bool) where
    one_more : (count : ℕ) (items : List W) (x : W) → AreFirst site may_fail fails count items → site x ≡ count → may_fail x ≡ fails count
        → AreFirst site may_fail fails (count + 1) (items ++ x ∷ [])
    one_more count items x are here says =
        let next : suc count ≡ count + 1 = omega arith in
        let from_zero : count ≡ 0 + count = omega arith in
        record {
          sites = map-append site items (x ∷ [])
              ∙ (ap (λ l. l ++ site x ∷ []) are.sites
              ∙ (ap (λ (k : ℕ). numbers_from 0 count ++ k ∷ []) (here ∙ from_zero)
              ∙ (one_number_more 0 count ∙ ap (numbers_from 0) next)));
          says = λ s. say_more s (fails s) items x (are.says s) (λ at. says ∙ ap fails (sym here ∙ at));
        }

    -- before the first item
    pub none_yet : (items : List W) → items ≡ [] → AreFirst site may_fail fails 0 items
    none_yet [] none = record { sites = refl; says = λ s. tt }
    none_yet (x ∷ xs) none = absurd (cc)

    -- the item of the next site comes behind them, where there is room for it
    pub pushed : (count : ℕ) (items more : List W) (x : W) (is_there : Bool) → AreFirst site may_fail fails count items
        → more ≡ (if is_there then items ++ x ∷ [] else items) → is_there ≡ true → site x ≡ count → may_fail x ≡ fails count
        → AreFirst site may_fail fails (count + 1) more
    pushed count items more x false are is there here says = absurd (cc)
    pushed count items more x true are is there here says = subst (AreFirst site may_fail fails (count + 1)) (sym is) (one_more count items x are here says)

    -- without room for it they stay
    pub unpushed : (count : ℕ) (items more : List W) (x : W) (is_there : Bool) → AreFirst site may_fail fails count items
        → more ≡ (if is_there then items ++ x ∷ [] else items) → is_there ≡ false → AreFirst site may_fail fails count more
    unpushed count items more x false are is there = subst (AreFirst site may_fail fails count) (sym is) are
    unpushed count items more x true are is there = absurd (cc)

    -- as many as there are sites are those of all sites
    pub all_sites : (n count : ℕ) (items : List W) → AreFirst site may_fail fails count items → count ≤ n → n ≤ length items → AreFirst site may_fail fails n items
    all_sites n count items are le long =
        let same : length items ≡ count = sym (length-map items site) ∙ (ap length are.sites ∙ length-numbers_from 0 count) in
        let all : count ≡ n = omega arith in
        subst (λ (k : ℕ). AreFirst site may_fail fails k items) all are

  -- the items of all sites prevent no run
  pub prevent_none : (n : Named) (workers : ℕ) (items : List W) → AreFirst site may_fail (fails_at n) (length n.names.sites) items
      → (fault : RunFault) → Prevents site may_fail items n workers fault → StopsSession workers fault
  prevent_none n workers items are = by
    where
      here : (s : ℕ) → s < length n.names.sites → count_by (nat_eq s) (map site items) ≡ 1
      here s lt = ap (count_by (nat_eq s)) are.sites ∙ once s 0 (length n.names.sites) (omega arith) (omega arith)

      behind : (s : ℕ) → length n.names.sites ≤ s → count_by (nat_eq s) (map site items) ≡ 0
      behind s past = ap (count_by (nat_eq s)) are.sites ∙ none_behind s 0 (length n.names.sites) (omega arith)

      by : (fault : RunFault) → Prevents site may_fail items n workers fault → StopsSession workers fault
      by ItemMissing p = omega (arith, here p.0.0 p.1.0, p.1.1)
      by ItemStrange p = omega (arith, behind p.0.0 p.1.1, p.1.2)
      by ItemTwice p = omega (arith, here p.0.0 p.1.2, p.1.3)
      by MayFailDiffers p = let differs = p.1.4 in differs.4 (said p.0.0 (fails_at n p.0.0) items differs.0 differs.1 (are.says p.0.0) differs.2 differs.3)
      by BadActor p = p.1
      by SeatTaken p = p.1
      by BadCount p = p.1
      by Spawn p = p.1
      by SeatsMissing p = p.1
      by Mismatch p = p.1

-- what prevents a run also prevents it by a rule that names more
module _ (telling : Telling) (doc : DocumentValue) (workers : ℕ) (some more : Named → ℕ → RunFault → Type 0) (wider : (fault : RunFault) → some doc.graph workers fault → more doc.graph workers fault) where
  runs_wider : (inputs : Option (List Bool)) (exit : Exit) (text : List ℕ) → RunsFrom telling doc inputs workers some exit text → RunsFrom telling doc inputs workers more exit text
  runs_wider None exit text is = is
  runs_wider (Some inputs) Success text is = is
  runs_wider (Some inputs) Failure text is = is
  runs_wider (Some inputs) Usage text is = is
  runs_wider (Some inputs) Unreadable text is = is
  runs_wider (Some inputs) Memory text is = is
  runs_wider (Some inputs) Device text is = is
  runs_wider (Some inputs) Fault text is = record { accepted = is.accepted; fault = is.fault; why = wider is.fault is.why; names = is.names }

  pub serves_wider : {W : Type 0} (contents : W → Option (List ℕ)) (old new : Counting W) (result : Exit)
      → ServesRun telling doc workers some contents old new result → ServesRun telling doc workers more contents old new result
  serves_wider contents old new result is = record {
    runs = record {
      exit = is.runs.exit;
      text = is.runs.text;
      runs = runs_wider (inputs_of doc) is.runs.exit is.runs.text is.runs.runs;
      puts = is.runs.puts;
    };
    complete = is.complete;
    memory = is.memory;
  }
