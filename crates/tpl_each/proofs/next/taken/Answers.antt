use Rattle.std.proofs.Common.{List, ℕ, ◌+◌, ◌++◌, ◌∷◌, drop, take, length, ap, sym, subst, ◌∙◌}
use Rattle.std.proofs.Math.Seq.{drop-length}
use Rattle.tpl_each.specs.Kept.{IsKept}
use Rattle.tpl_each.specs.Lines.{IsLine}
use Rattle.tpl_each.proofs.Breaks.{cut_at}
use Rattle.tpl_each.proofs.next.taken.Goals as goal

pub returns-in-Some : goal.returns-in-Some
returns-in-Some c input kept =
    let bytes = c.bytes-bytes.result.now in
    let place = c.in-Some.place in
    let same = c.bytes-bytes.ensures in (
      take place bytes,
      c.in-Some.ensures.before,
      c.grown-line.ensures input kept,
      sym same ∙ (cut_at bytes place c.in-Some.ensures ∙ ap (λ (z : List ℕ). take place bytes ++ (10 ∷ z)) (ap (drop (place + 1)) same ∙ sym c.skip.ensures)),
    )

pub returns-in-None : goal.returns-in-None
returns-in-None c input kept =
    let bytes = c.bytes-bytes.result.now in
    let same = c.bytes-bytes.ensures in (
      subst IsLine same c.in-None.ensures,
      subst (λ (z : List ℕ). IsKept (input ++ z) c.grown-line-in-None.result) same (c.grown-line-in-None.ensures input kept),
      c.skip-in-None.ensures ∙ (ap (drop (length bytes)) (sym same) ∙ drop-length bytes),
    )
