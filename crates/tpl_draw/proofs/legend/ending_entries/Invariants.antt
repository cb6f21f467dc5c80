use Rattle.std.proofs.Common.{◌≡◌, take}
use Rattle.std.specs.Prelude.{string_bytes, flat_map}
use Rattle.tpl_draw.specs.Legend.{ending_entry, painted_endings}
use Rattle.tpl_draw.proofs.legend.ending_entries.Given as goal

abbrev pub invariant-loop-ways : goal.invariant-loop-ways
invariant-loop-ways l = record {
  so_far : string_bytes l.text ≡ flat_map (ending_entry l.language l.ends) (take l.ways-index l.ways-items);
  all : l.ways-items ≡ painted_endings;
}
