use Rattle.std.proofs.Common.{refl, length}
use Rattle.tpl_model.specs.Certificate.{IsClosed}
use Rattle.tpl_laws.specs.Verdict.{broken, first_broken}
use Rattle.tpl_laws.proofs.FaultsDecided.{broken_lem, all_closed}
use Rattle.tpl_laws.proofs.closed.first_broken_is_right.Goals as goal

pub returns : goal.returns
returns c g l rows valid =
    all_closed (IsClosed g l rows) (broken g l rows) (first_broken g l rows) (λ t. broken_lem c.path_laws.ensures g l rows t valid) (λ t. refl) (λ t n. refl) (length g.tasks)
