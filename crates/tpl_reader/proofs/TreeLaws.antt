-- The trees of a certificate are within the limits.
use Rattle.std.proofs.Common.{◌≡◌, ◌⊎◌, inl, inr, ℕ, List, [], ◌∷◌, map, Result, Ok, Err, IfOk, true, refl}
use Rattle.std.specs.Prelude.{IfErr}
use Rattle.std.specs.declared.alloc.Global.{Global}
use Rattle.std.specs.declared.vec.Vec.{Vec}
use Rattle.std.specs.List.{All}
use Rattle.std.proofs.lemmas.List.Elements.{All-nil, All-cons, All-head, All-tail}
use Rattle.serde_json.specs.Data.{Data}
use Rattle.tpl_model.specs.declared.rule_set.RuleSet.{RuleSet}
use Rattle.tpl_model.specs.Certificate.{Tree}
use Rattle.tpl_draft.specs.Named.{Names}
use Rattle.tpl_json.specs.Members.{only_if}
use Rattle.tpl_json.specs.declared.miss.Miss.{Miss}
use Rattle.tpl_json.specs.Passes.{at_number, Yields}
use Rattle.tpl_json.proofs.Json.{only_is}
use Rattle.tpl_json.proofs.Passes.{bind_ok, bind_or, each_every, ok_is}
use Rattle.tpl_trees.specs.Heights.{IsWithinLimits, is_within_limits}
use Rattle.tpl_cert.specs.Spelled.{spelled_tree, read_tree}
use Rattle.tpl_cert.specs.declared.fault.TreeFault.{TreeFault}
use Rattle.tpl_cert.specs.declared.fault.TreeFault.TheVariants as faults
use Rattle.tpl_trees.proofs.WithinLimits.{within_from}
use Rattle.tpl_reader.specs.Trees.{numbered_tree, trees_in}
use Rattle.tpl_reader.proofs.Asking.{numbered_ok}

-- a tree that was read passes the test
passes : (rules : RuleSet) (names : Names) (d : Data) (t : Tree) → read_tree rules names d ≡ Ok t → is_within_limits t ≡ true
unfolding read_tree
passes rules names d t e =
    let spelled = bind_ok (spelled_tree rules names d) _ t e in
    let few = bind_or (only_if (is_within_limits spelled.0)) faults.Limit _ t spelled.2 in
    let same = ok_is spelled.0 t _ refl few.2 in
    rw same at (only_is (is_within_limits spelled.0) few.0 few.1)

all_pass : (rules : RuleSet) (names : Names) (ds : List Data) (ts : List Tree) → trees_in rules names ds ≡ Ok ts → All (λ t. is_within_limits t ≡ true) ts
all_pass rules names ds ts e =
    each_every (λ n d. at_number n (read_tree rules names d)) (λ t. is_within_limits t ≡ true) (λ n d t h. passes rules names d t (numbered_ok n (read_tree rules names d) t h)) 1 ds ts e

within_all : (ts : List Tree) → All (λ t. is_within_limits t ≡ true) ts → All IsWithinLimits ts
within_all [] all = All-nil IsWithinLimits
within_all (t ∷ ts) all = All-cons IsWithinLimits t ts (within_from t (All-head (λ t. is_within_limits t ≡ true) t ts all)) (within_all ts (All-tail (λ t. is_within_limits t ≡ true) t ts all))

no_memory : (fault : TreeFault) (o : Result Tree TreeFault) (n : ℕ) → (fault ≡ faults.Memory → ⊥) → (fault ≡ faults.Memory) ⊎ (o ≡ Err fault) → at_number n o ≡ Err (n, fault)
no_memory fault o n not (inl memory) = absurd (not memory)
no_memory fault o n not (inr is) = rw is refl

pub all_within : (rules : RuleSet) (names : Names) (ds : List Data) (r : Result (Vec Tree Global) (Miss (ℕ × TreeFault))) → Yields (λ v. v.items) r (trees_in rules names ds) → IfOk r (λ v. All IsWithinLimits v.items)
all_within rules names ds (Ok v) e = within_all v.items (all_pass rules names ds v.items e)
all_within rules names ds (Err e) h = tt

-- what was read of one value, with its number
pub tree_numbered : {T : Type 0} (seen : T → Tree) (read : Result T TreeFault) (o : Result Tree TreeFault) (n : ℕ) (r : Result T (Miss (ℕ × TreeFault))) → r ≡ numbered_tree n read → IfOk read (λ t. o ≡ Ok (seen t)) → IfErr read (λ e. (e ≡ faults.Memory) ⊎ (o ≡ Err e)) → Yields seen r (at_number n o)
tree_numbered seen (Ok t) o n r is ok err = rw (is, ok) refl
tree_numbered seen (Err faults.Memory) o n r is ok err = rw is tt
tree_numbered seen (Err faults.Shape) o n r is ok err = rw is (no_memory faults.Shape o n (λ e. absurd cc) err)
tree_numbered seen (Err faults.Unknown) o n r is ok err = rw is (no_memory faults.Unknown o n (λ e. absurd cc) err)
tree_numbered seen (Err faults.Limit) o n r is ok err = rw is (no_memory faults.Limit o n (λ e. absurd cc) err)
