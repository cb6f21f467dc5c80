use Rattle.std.proofs.Common.{ℕ, List, None, ap, ◌∙◌}
use Rattle.std.specs.Prelude.{option_map, slice_get, if◌then◌else◌}
use Rattle.tpl_model.specs.Members.{mem}
use Rattle.tpl_model.specs.Knowledge.{Reading}
use Rattle.tpl_paths.specs.declared.reading.Reading.{Reading as StoredReading}
use Rattle.tpl_paths.specs.declared.asked.Asked.TheVariants as asked
use Rattle.tpl_paths.specs.Asked.{known_by}
use Rattle.tpl_paths.specs.Reading.{end_of, reading_of}
use Rattle.tpl_paths.specs.TokenSet.{has_token}
use Rattle.tpl_paths.proofs.Meets.{meet_none}
use Rattle.tpl_paths.proofs.walk.known_at_start.Goals as goal

-- the reading with these attached children
abbrev with_attached : StoredReading → List ℕ → Reading
with_attached r xs = record {
  known = (reading_of r).known;
  linked = (reading_of r).linked;
  child = λ c. if mem c xs then option_map end_of (slice_get r.ends.now c) else None;
}

pub returns : goal.returns
returns c =
    c.known_by.ensures
    ∙ (ap (λ (xs : List ℕ). known_by (asked.Start c.args.child) (with_attached c.args.reading.now xs) (has_token c.args.tokens) c.args.script.now) c.empty-attached.ensures
    ∙ meet_none _)
