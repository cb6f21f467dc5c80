-- Trees of trees that are found.
use Rattle.std.proofs.Common.{◌≡◌, ℕ, ◌+◌, ◌<◌, ◌≤◌, true, false, List, Option, Some, None, Result, Ok, Err, IfOk, IfSome, subst, sym, arith}
use Rattle.tpl_model.specs.declared.finals.Final.TheVariants.{RanToCompletion, Canceled, Faulted}
use Rattle.tpl_model.specs.Graph.{TaskGraph, is_task}
use Rattle.tpl_model.specs.declared.ids.TaskId.{TaskId}
use Rattle.tpl_model.specs.declared.claim.Property.{Property}
use Rattle.tpl_model.specs.Certificate.{Row, Tree, OnInput, OnEnd, RowsLeaf, Assumed, with_input, with_end, AcceptsTree}
use Rattle.tpl_trees.specs.Heights.{height, HasShortChains}
use Rattle.tpl_analyser.specs.declared.form.Form.{Form}
use Rattle.tpl_analyser.specs.Found.{IsFound}
use Rattle.tpl_analyser.specs.Slim.{AreOfForm, IsOfForm}

pub found_deeper : (g : TaskGraph) (p : Property TaskId) (form : Form) (l : Assumed) (n m : ℕ) (t : Tree) → n ≤ m → IsFound g p form l n t → IsFound g p form l m t
found_deeper g p form l n m t le f = record { accepted = f.accepted; splits = omega arith; chains = f.chains; of_form = f.of_form }

-- what holds of a tree, if one is found
pub if_found : {T E : Type 0} (P Q : T → Type 0) → ((t : T) → P t → Q t) → (r : Result (Option T) E) → IfOk r (λ found. IfSome found P) → IfOk r (λ found. IfSome found Q)
if_found P Q f (Ok None) h = tt
if_found P Q f (Ok (Some t)) h = f t h
if_found P Q f (Err e) h = tt

pub leaf_found : (g : TaskGraph) (p : Property TaskId) (form : Form) (l : Assumed) (rows others : List Row) (t : Tree) → t ≡ RowsLeaf others → rows ≡ others → AcceptsTree g p l (RowsLeaf rows) → HasShortChains t → AreOfForm form p rows → IsFound g p form l 0 t
leaf_found g p form l rows others t e same a short of_form = record {
  accepted = subst (λ (z : Tree). AcceptsTree g p l z) (sym e) (subst (λ (rs : List Row). AcceptsTree g p l (RowsLeaf rs)) same a);
  splits = subst (λ (z : Tree). height z ≤ 0) (sym e) (omega arith);
  chains = short;
  of_form = subst (λ (z : Tree). IsOfForm form p z) (sym e) (subst (λ (rs : List Row). IsOfForm form p (RowsLeaf rs)) same of_form);
}

-- what a branch assumes, as an equation
pub found_under : (g : TaskGraph) (p : Property TaskId) (form : Form) (l k : Assumed) (n : ℕ) (t : Tree) → l ≡ k → IsFound g p form l n t → IsFound g p form k n t
found_under g p form l k n t e f = subst (λ (z : Assumed). IsFound g p form z n t) e f

module _ (g : TaskGraph) (p : Property TaskId) (form : Form) (l : Assumed) (n m : ℕ) (more : n + 1 ≡ m) where
  pub input_found : (i : ℕ) (a b : Tree) (k o : Assumed) → i < g.inputs → k ≡ with_input l i true → o ≡ with_input l i false → IsFound g p form k n a → IsFound g p form o n b → IsFound g p form l m (OnInput i a b)
  input_found i a b k o lt e f on_true on_false =
      let yes = found_under g p form k (with_input l i true) n a e on_true in
      let no = found_under g p form o (with_input l i false) n b f on_false in
      record { accepted = (lt, yes.accepted, no.accepted); splits = omega arith; chains = (yes.chains, no.chains); of_form = (yes.of_form, no.of_form) }

  pub end_found : (t : ℕ) (a b c : Tree) (k o q : Assumed) → is_task g t → k ≡ with_end l t RanToCompletion → o ≡ with_end l t Canceled → q ≡ with_end l t Faulted → IsFound g p form k n a → IsFound g p form o n b → IsFound g p form q n c → IsFound g p form l m (OnEnd t a b c)
  end_found t a b c k o q lt e f h on_ran on_canceled on_faulted =
      let ran = found_under g p form k (with_end l t RanToCompletion) n a e on_ran in
      let canceled = found_under g p form o (with_end l t Canceled) n b f on_canceled in
      let faulted = found_under g p form q (with_end l t Faulted) n c h on_faulted in
      record { accepted = (lt, ran.accepted, canceled.accepted, faulted.accepted); splits = omega arith; chains = (ran.chains, canceled.chains, faulted.chains); of_form = (ran.of_form, canceled.of_form, faulted.of_form) }
