-- All names of a graph, as the code keeps them.
use Rattle.tpl_draft.specs.declared.names.Tables.{Tables}
use Rattle.tpl_draft.specs.Named.{Names}

abbrev pub seen : Tables → Names
seen t = record { inputs = t.inputs; tokens = t.tokens; tasks = t.tasks; labels = t.labels; sites = t.sites }
