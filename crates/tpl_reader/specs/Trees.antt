-- The trees that JSON values are read as, in a graph with its names, or the first that is read as none and what is wrong with it.
use Rattle.std.specs.Prelude.{ℕ, List, Result, Ok, Err}
use Rattle.serde_json.specs.Data.{Data}
use Rattle.tpl_model.specs.declared.rule_set.RuleSet.{RuleSet}
use Rattle.tpl_model.specs.Certificate.{Tree}
use Rattle.tpl_draft.specs.Named.{Names}
use Rattle.tpl_json.specs.declared.miss.Miss.{Miss}
use Rattle.tpl_json.specs.declared.miss.Miss.TheVariants as miss
use Rattle.tpl_json.specs.Passes.{each_from, at_number}
use Rattle.tpl_cert.specs.declared.fault.TreeFault.{TreeFault}
use Rattle.tpl_cert.specs.declared.fault.TreeFault.TheVariants.{Memory}
use Rattle.tpl_cert.specs.Spelled.{read_tree}

-- each value, by its number; those of a certificate by the rules without tokens say nothing of tokens and of winners
abbrev pub trees_in : RuleSet → Names → List Data → Result (List Tree) (ℕ × TreeFault)
trees_in rules names ds = each_from (λ n d. at_number n (read_tree rules names d)) 1 ds

-- what was read of the value of this number, where want of memory is no fault of the tree
abbrev pub numbered_tree : {T : Type 0} → ℕ → Result T TreeFault → Result T (Miss (ℕ × TreeFault))
numbered_tree n (Ok t) = Ok t
numbered_tree n (Err Memory) = Err miss.Memory
numbered_tree n (Err fault) = Err (miss.Wrong (n, fault))
