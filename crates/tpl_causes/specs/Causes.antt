-- The events that led to where a claim fails, and the lines that tell of them.
use Rattle.std.specs.Prelude.{ℕ, ◌-◌, ◌<◌, ◌≤◌, List, [], ◌∷◌, ◌++◌, codes, decimal, drop, flat_map, length, map, string_bytes}
use Rattle.tpl_causes.specs.declared.cause.Cause.{Cause}

-- The causes are events of a run of so many events, up to this place and in its order, each behind the one before it; each led to an
-- event of the run.
abbrev pub AreFrom : (before upto events : ℕ) → List Cause → Type 0
AreFrom before upto events [] = Unit {0}
AreFrom before upto events (cause ∷ causes) =
    (before < cause.event) × (cause.event ≤ upto) × (0 < cause.led_to) × (cause.led_to ≤ events) × AreFrom cause.event upto events causes

-- the causes are events of a run of so many events, in its order, each of which led to an event of the run
abbrev pub AreCauses : (events : ℕ) → List Cause → Type 0
AreCauses events causes = AreFrom 0 events events causes

-- at most so many causes are told, the last ones
abbrev pub most_told : ℕ
most_told = 20

-- the line of a cause, with this word for an event
abbrev pub cause_line : List ℕ → Cause → List ℕ
cause_line word cause = codes "  " ++ (word ++ (codes " " ++ (decimal cause.event ++ (codes ": " ++ (string_bytes cause.says ++ codes "\n")))))

-- The lines that tell how a run came to where a claim fails: none where the event there is the only one.
abbrev pub cause_lines : List ℕ → List Cause → List (List ℕ)
cause_lines word [] = []
cause_lines word (cause ∷ []) = []
cause_lines word (one ∷ other ∷ more) =
    codes "how it came to this:\n" ∷ map (cause_line word) (drop (length (one ∷ other ∷ more) - most_told) (one ∷ other ∷ more))

-- the same lines as one text
abbrev pub told : List ℕ → List Cause → List ℕ
told word causes = flat_map (λ line. line) (cause_lines word causes)
