-- How promises of threads are told apart.
use Rattle.std.specs.Prelude.{refl}
use Rattle.std.specs.Coded.{Coded, code_by, coded×}
use Rattle.tpl_model.specs.declared.status.Actor.{Actor}
use Rattle.tpl_run.specs.EventCode.{actor_code}
use Rattle.tpl_runtime.specs.Views.{SessionView, PromiseView, session_code}

abbrev pub promise_code : Coded PromiseView
promise_code = code_by (Actor × SessionView) (coded× actor_code session_code) (λ p. (p.actor, p.session)) (λ p. record { actor = p.0; session = p.1 }) (λ _. refl)
