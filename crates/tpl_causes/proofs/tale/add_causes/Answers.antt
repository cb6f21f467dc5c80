use Rattle.std.proofs.Common.{map, arith}
use Rattle.std.specs.Prelude.{string_bytes}
use Rattle.std.proofs.lemmas.Result.{on_ok_weaker}
use Rattle.tpl_causes.proofs.Lines.{lines_told}
use Rattle.tpl_causes.proofs.tale.add_causes.Goals as goal

pub returns : goal.returns
returns c =
    on_ok_weaker c.add_lines.result (λ told.
    lines_told c.args.word.now c.args.causes.now c.saturating_sub-first.result (map string_bytes c.args.lines.now.items) (map string_bytes c.add_head.new.lines.items) (map string_bytes c.add_lines.new.lines.items) (let many = c.if-causes-lt2.false in omega (arith, many)) c.saturating_sub-first.ensures c.in_ok-add_head.ensures told) c.add_lines.ensures
