-- Certificates with their rules, and what is written of them.
use Rattle.std.specs.Prelude.{◌≡◌, List, Ok}
use Rattle.serde_json.specs.Data.{Data}
use Rattle.tpl_model.specs.declared.rule_set.RuleSet.{RuleSet}
use Rattle.tpl_model.specs.Certificate.{Tree}
use Rattle.tpl_draft.specs.Named.{Names}
use Rattle.tpl_cert.specs.Spelled.{spelled_tree}
use Rattle.tpl_cert.specs.Written.{tree_data, certificate_data}
use Rattle.tpl_commands.specs.declared.proof.Proof.{Proof}

-- the rules by which the certificate is judged and written
abbrev pub rules_for : Proof → RuleSet
rules_for proof = proof.rules

-- its trees
abbrev pub trees_of : Proof → List Tree
trees_of proof = proof.certificate

-- the JSON value that is written for it: an array of its trees
abbrev pub proof_data : Names → Proof → Data
proof_data names proof = certificate_data (rules_for proof) names (trees_of proof)

-- what is written for a tree by the rules spells that tree
abbrev pub IsRead : RuleSet → Names → Tree → Type 0
IsRead rules names tree = spelled_tree rules names (tree_data rules names tree) ≡ Ok tree
