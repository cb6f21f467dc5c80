-- A view in memory, read as what is known of the runs.
use Rattle.std.specs.Prelude.{Bool, true, false, option_map, slice_index_or}
use Rattle.tpl_model.specs.declared.ids.TokenId.{TokenId}
use Rattle.tpl_model.specs.Finals.{has}
use Rattle.tpl_model.specs.declared.view.Possible.{Possible}
use Rattle.tpl_model.specs.declared.view.View.{View}
use Rattle.tpl_model.specs.Paths.{Known}

-- the value is possible
abbrev pub may_have : Possible → Bool → Bool
may_have p true = p.on_true
may_have p false = p.on_false

-- an input past the last entry may have both values, a token there may be requested, and a job there may fail
abbrev pub known : View → Known
known v = record {
  possible = λ i value. may_have (slice_index_or v.inputs i (record { on_true = true; on_false = true })) value;
  quiet = λ k. slice_index_or v.quiet k false;
  own = option_map (λ (k : TokenId). k.0) v.own;
  subject = has v.subject;
  sure = λ site. slice_index_or v.sure site false;
}
