-- What paths have in common, in memory.
use Rattle.std.specs.Prelude.{Option, option_map}
use Rattle.tpl_model.specs.Knowledge.{Knowledge}
use Rattle.tpl_paths.specs.declared.knowledge.Knowledge.{Knowledge as StoredKnowledge}
use Rattle.tpl_paths.specs.TokenSet.{has_token}
use Rattle.tpl_paths.specs.Facts.{has_fact}

-- the same as the definitions have it
abbrev pub knowledge_of : StoredKnowledge → Knowledge
knowledge_of k = record { requested = has_token k.requested; later = has_fact k.later }

-- the same of paths, if there are any
abbrev pub told : Option StoredKnowledge → Option Knowledge
told known = option_map knowledge_of known
