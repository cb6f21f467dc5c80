-- By which rules a document's certificates are judged.
use Rattle.tpl_model.specs.declared.rule_set.RuleSet.{RuleSet}
use Rattle.tpl_laws.specs.ByRules.{AcceptsBy}
use Rattle.tpl_parts.specs.Versions.{rules_since}
use Rattle.tpl_reader.specs.Document.{DocumentValue}

-- by its version
abbrev pub rules_of : DocumentValue → RuleSet
rules_of doc = rules_since doc.version

-- the document's certificate is accepted
abbrev pub HasProof : DocumentValue → Type 0
HasProof doc = AcceptsBy (rules_of doc) doc.graph.graph doc.claims doc.certificate
