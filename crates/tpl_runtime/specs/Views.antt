-- What contracts see of a session.
use Rattle.std.specs.Prelude.{Bool, List, refl}
use Rattle.std.specs.Coded.{Coded, code_by, coded×, coded_list, coded_bool}
use Rattle.atomic_table.specs.Seated.{TableId, table_id_coded}
use Rattle.tpl_draft.specs.Named.{Named}
use Rattle.tpl_graph.specs.Coding.{named_code}
use Rattle.tpl_model.specs.declared.status.Actor.{Actor}

-- a session: the graph and the inputs with which it was opened, and the name of its queue
pub record SessionView : Type 0 where
  pub graph : Named
  pub inputs : List Bool
  pub queue : TableId

-- what a thread promises: who comes back from it, and of which session
pub record PromiseView : Type 0 where
  pub actor : Actor
  pub session : SessionView

abbrev pub session_code : Coded SessionView
session_code =
    code_by (Named × (List Bool × TableId)) (coded× named_code (coded× (coded_list coded_bool) table_id_coded))
    (λ s. (s.graph, (s.inputs, s.queue)))
    (λ p. record { graph = p.0; inputs = p.1.0; queue = p.1.1 })
    (λ _. refl)
