use Rattle.std.proofs.Common.{◌≡◌, ◌≤◌, length, map, take}
use Rattle.tpl_draft.specs.Numbered.{token_in}
use Rattle.tpl_draft.specs.Origins as origins
use Rattle.tpl_draft.specs.SeenTasks.{token_of}
use Rattle.tpl_graph.proofs.rows.origins.Given as goal

abbrev pub invariant-loop-token : goal.invariant-loop-token
invariant-loop-token l = record {
  few : length l.names ≤ 32;
  made : map origins.token_of l.made.items ≡ map (λ k. token_in l.names (token_of k).linked) (take l.token-index l.tokens);
}
