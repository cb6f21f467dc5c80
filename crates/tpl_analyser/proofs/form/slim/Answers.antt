use Rattle.std.proofs.lemmas.List.Elements.{All-push}
use Rattle.tpl_analyser.specs.Slim.{IsSlimRow}
use Rattle.tpl_analyser.proofs.SlimLemmas.{slim_row}
use Rattle.tpl_analyser.proofs.form.slim.Goals as goal

pub loop-row-preserved : goal.loop-row-preserved
loop-row-preserved c =
    let slim = slim_row c.args.property c.used-used.result c.row-item.result c.in_ok-with_used.field-0 c.used-used.ensures c.in_ok-with_used.ensures.before c.in_ok-with_used.ensures.past in
    rw (c.in_ok-push.ensures.items) (All-push (IsSlimRow c.args.property) c.loop-row.slim.items c.in_ok-with_used.field-0 c.loop-row.invariant slim)
