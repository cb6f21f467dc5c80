-- The lines that tell of causes.
use Rattle.std.proofs.Common.{◌≡◌, ◌∙◌, ℕ, ◌-◌, ◌≤◌, ◌++◌, List, [], ◌∷◌, ap, append_assoc, codes, drop, length, length-drop, map, take, arith}
use Rattle.std.proofs.lemmas.List.{take_all}
use Rattle.tpl_causes.specs.declared.cause.Cause.{Cause}
use Rattle.tpl_causes.specs.Causes.{cause_line, cause_lines, most_told}

-- what stands above them, and then the last of them
pub lines_told : (word : List ℕ) (causes : List Cause) (first : ℕ) (old headed new : List (List ℕ)) → 2 ≤ length causes → first ≡ length causes - most_told → headed ≡ old ++ codes "how it came to this:\n" ∷ [] → new ≡ headed ++ map (cause_line word) (take (length causes - first) (drop first causes)) → new ≡ old ++ cause_lines word causes
lines_told word [] first old headed new many from is told = absurd (omega (arith, many))
lines_told word (cause ∷ []) first old headed new many from is told = absurd (omega (arith, many))
lines_told word (one ∷ other ∷ more) first old headed new many from is told =
    let head = codes "how it came to this:\n" in
    let all = one ∷ other ∷ more in
    let rest = map (cause_line word) (drop first all) in
    let size = length-drop first all in
    let whole : take (length all - first) (drop first all) ≡ drop first all = take_all (length all - first) (drop first all) (omega (arith, size)) in
    told
    ∙ (ap (λ (last : List Cause). headed ++ map (cause_line word) last) whole
    ∙ (ap (λ z. z ++ rest) is
    ∙ (append_assoc old (head ∷ []) rest
    ∙ ap (λ k. old ++ head ∷ map (cause_line word) (drop k all)) from)))
