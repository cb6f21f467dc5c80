-- The jobs that a run answered.
use Rattle.std.specs.Prelude.{ℕ, Bool, true, false, List, [], ◌∷◌, ◌++◌}
use Rattle.tpl_model.specs.declared.status.Answer.{Answer}
use Rattle.tpl_model.specs.Statements.{Statements, Work, ◌⨾◌}
use Rattle.tpl_model.specs.Graph.{TaskGraph}
use Rattle.tpl_model.specs.declared.event.Act.{Act}
use Rattle.tpl_model.specs.declared.event.Act.TheVariants.{Worked}
use Rattle.tpl_model.specs.declared.event.Event.{Event}
use Rattle.tpl_model.specs.Facts.{rest}
use Rattle.tpl_items.specs.declared.receipt.Receipt.{Receipt}

-- the site of the work statement that stands next; 0 where none does
abbrev pub site_next : Statements → ℕ
site_next (Work site may_fail ⨾ more) = site
site_next left = 0

-- what an act answers: the site of the work statement that it passes, and the answer
abbrev pub answered : Act → (ℕ → Statements) → List (ℕ × Answer)
answered (Worked t answer) left = (site_next (left t.0), answer) ∷ []
answered act left = []

-- the answers of a run, one for each Worked event, the first one first
abbrev pub answers : TaskGraph → List Bool → List Event → List (ℕ × Answer)
answers g v [] = []
answers g v (e ∷ h) = answers g v h ++ answered e.act (λ t. (rest g v h t).left)

-- the act isn't the answer of a job
abbrev pub is_silent : Act → Bool
is_silent (Worked t answer) = false
is_silent act = true

-- what a receipt says
abbrev pub shown : {K : Type 0} → Receipt K → ℕ × Answer
shown r = (r.site.0, r.answer)
