use Rattle.std.proofs.Common.{◌≡◌, ◌+◌, ◌-◌, ◌^◌, ℕ, List, length}
use Rattle.std.specs.List.{list_all}
use Rattle.tpl_journal.specs.Counting.{contents_of, failures_of, remaining_of}
use Rattle.tpl_each.specs.Ahead.{coming}
use Rattle.tpl_each.specs.Said.{Said, is_yes}
use Rattle.tpl_each.proofs.Answered.{AreAnswered}
use Rattle.tpl_each.proofs.serving.serve_each.Given as goal

abbrev pub invariant-loop-number : goal.invariant-loop-number
invariant-loop-number g l = record {
  answered : (lines : List (List ℕ)) × (said : List Said)
      × AreAnswered (g.C.Command.answers l.command) (remaining_of g.R.Read.remaining l.initial.from) (coming g.R.Read.remaining l.ahead l.from) (contents_of g.W.Write.contents l.initial.to) (contents_of g.W.Write.contents l.to) lines said
      × (l.number ≡ length said + 1)
      × (l.good ≡ list_all (λ (it : Said). is_yes it.exit) said);
  reads : failures_of l.from ≡ failures_of l.initial.from;
  writes : failures_of l.to ≡ failures_of l.initial.to;
}

abbrev pub decreases-loop-number : goal.decreases-loop-number
decreases-loop-number g l = 2 ^ 63 - l.number
