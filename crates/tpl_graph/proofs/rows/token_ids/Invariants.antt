use Rattle.std.proofs.Common.{◌≡◌, ◌≤◌, length, map, take}
use Rattle.std.specs.Prelude.{string_bytes}
use Rattle.tpl_draft.specs.Ids.{token_number}
use Rattle.tpl_draft.specs.Names.{place}
use Rattle.tpl_graph.proofs.rows.token_ids.Given as goal

abbrev pub invariant-loop-name : goal.invariant-loop-name
invariant-loop-name l = record {
  few : length l.names ≤ 32;
  made : map token_number l.ids.items ≡ map (λ n. place l.names (string_bytes n)) (take l.name-index l.list);
}
