use Rattle.std.proofs.Common.{◌≡◌, length, map, ◌∙◌, subst, arith}
use Rattle.std.proofs.lemmas.List.{length-set}
use Rattle.tpl_draft.specs.Ids.{token_number}
use Rattle.tpl_run.specs.Tokens.{IsTable}
use Rattle.tpl_run.proofs.TokenLemmas.{table_step}
use Rattle.tpl_run.proofs.tokens.close.Goals as goal

pub loop-i-preserved : goal.loop-i-preserved
loop-i-preserved c = record {
  closed = λ v h t. table_step c.args.graph.now.graph v h c.loop-i.table c.loop-i.i (map token_number c.sources.result.now) c.is_marked-marked.result c.requested_by_a_source.ensures c.valid_law.ensures.graph
      (let a = c.loop-i-test.true in let b = c.token_count-i-end.ensures.count in omega arith)
      c.sources.ensures c.is_marked-marked.ensures (c.loop-i.invariant.closed v h t);
  count = length-set c.loop-i.table c.loop-i.i c.is_marked-marked.result ∙ c.loop-i.invariant.count;
}

pub returns : goal.returns
returns c = λ v h t.
    let e : c.loop-i.i ≡ length c.args.graph.now.graph.tokens = (let a = c.loop-i-test.false in let b = c.token_count-i-end.ensures.count in let d = c.loop-i.auto.i-end in omega arith) in
    subst (λ n. IsTable c.args.graph.now.graph v h c.loop-i.table n) e (c.loop-i.invariant.closed v h t)
