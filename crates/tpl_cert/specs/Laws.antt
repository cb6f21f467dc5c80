-- What is true of what is written for trees.
use Rattle.std.specs.Prelude.{◌≤◌, List}
use Rattle.std.specs.List.{All}
use Rattle.serde_json.specs.Data.{depth}
use Rattle.serde_json.specs.Read.{max_depth}
use Rattle.tpl_model.specs.declared.rule_set.RuleSet.{RuleSet}
use Rattle.tpl_model.specs.Certificate.{Tree}
use Rattle.tpl_draft.specs.Named.{Names}
use Rattle.tpl_trees.specs.Heights.{height}
use Rattle.tpl_model.specs.declared.limits.TheConstants.{MOST_SPLITS}
use Rattle.tpl_cert.specs.Written.{certificate_data}

-- what is written for trees of at most MOST_SPLITS splits on a path nests no deeper than what is read
abbrev pub CertificatesNestLittle : Type 0
CertificatesNestLittle = (rules : RuleSet) (names : Names) (trees : List Tree) → All (λ t. height t ≤ MOST_SPLITS) trees → depth (certificate_data rules names trees) ≤ max_depth
