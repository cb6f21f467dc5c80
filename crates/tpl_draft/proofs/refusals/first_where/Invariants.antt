use Rattle.tpl_draft.specs.Refusals.{applies}
use Rattle.tpl_draft.specs.SeenTasks.{draft_of}
use Rattle.tpl_draft.specs.Test.{why_of}
use Rattle.tpl_draft.proofs.FirstLemmas.{NoneUpTo}
use Rattle.tpl_draft.proofs.refusals.first_where.Given as goal

abbrev pub invariant-loop-t : goal.invariant-loop-t
invariant-loop-t l = NoneUpTo (applies (draft_of l.draft) (why_of l.test)) l.t
