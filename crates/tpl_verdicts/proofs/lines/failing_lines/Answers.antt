use Rattle.std.proofs.Common.{List, ℕ, map, subst}
use Rattle.std.specs.Prelude.{string_bytes}
use Rattle.tpl_verdicts.specs.Lines.{AddsCauses}
use Rattle.tpl_verdicts.proofs.lines.failing_lines.Goals as goal

pub returns : goal.returns
returns c =
    subst (λ (old : List (List ℕ)). AddsCauses c.args.run.now old (map string_bytes c.add_causes_of.new.lines.items)) c.in_ok-lines.ensures c.in_ok-add_causes_of.ensures
