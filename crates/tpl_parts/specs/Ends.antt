-- Which JSON values say how tasks were seen to end, with names.
use Rattle.std.specs.Prelude.{Bool, false, is_some}
use Rattle.serde_json.specs.Data.{Data, object}
use Rattle.tpl_json.specs.Finals.{final_at}
use Rattle.tpl_parts.specs.Start.{all_values}

-- an object whose members are all final statuses
unfoldable pub has_ends : Data → Bool
has_ends (object ms) = all_values (λ d. is_some (final_at d)) ms
has_ends d = false
