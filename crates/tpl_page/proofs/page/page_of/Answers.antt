use Rattle.std.proofs.lemmas.Result.{IfOk-weaker}
use Rattle.tpl_page.specs.declared.template.TheConstants.{HEAD, MIDDLE, TAIL}
use Rattle.tpl_page.specs.Escape.{escaped}
use Rattle.tpl_page.proofs.EscapeLemmas.{closed, of_parts}
use Rattle.tpl_page.proofs.page.page_of.Goals as goal

pub returns : goal.returns
returns c =
    let answer = c.args.answer.now in
    let shown = c.args.shown.now in
    IfOk-weaker c.put_together.result _ _ (λ text e. record {
      is = of_parts _ _ _ _ HEAD.now MIDDLE.now TAIL.now (escaped answer) (escaped shown) c.head.ensures c.middle.ensures c.tail.ensures e;
      answer_closed = closed answer;
      shown_closed = closed shown;
    }) c.put_together.ensures
