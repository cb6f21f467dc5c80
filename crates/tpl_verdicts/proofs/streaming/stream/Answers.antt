use Rattle.std.proofs.Common.{ap, map, option_map, string_bytes}
use Rattle.tpl_reader.specs.SeenDocument.{doc_of}
use Rattle.tpl_verdicts.proofs.AskedLemmas.{first_none}
use Rattle.tpl_verdicts.proofs.Streamed.{streamed}
use Rattle.tpl_verdicts.proofs.streaming.stream.Goals as goal

pub verify_in_order-told-requires-clause-begins : goal.verify_in_order-told-requires-clause-begins
verify_in_order-told-requires-clause-begins g c κs within =
    first_none c.rules_of-rules.result c.args.asked.limits.depth c.args.asked.limits.runs c.args.document.now.graph c.as_slice-claims.result.now _

pub returns : goal.returns
returns g c =
    let doc = doc_of c.args.document.now in
    streamed g.W.Write.contents c.args.to.now c.verify_in_order-told.new.to c.put_ending.new.to c.args.asked.limits.depth c.args.asked.limits.runs c.args.bytes.now doc c.put_ending.result
    c.rules_of-rules.result c.as_slice-claims.result.now (map (λ name. option_map string_bytes name) c.deref.result.now)
    c.rules_of-rules.ensures c.as_slice-claims.ensures.value (ap (map (λ name. option_map string_bytes name)) c.deref.ensures.value)
    c.verify_in_order-told.result c.verify_in_order-told.ensures c.put_ending.ensures
