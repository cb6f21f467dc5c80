-- What the members of a document in memory are seen as.
use Rattle.std.specs.Prelude.{map, string_bytes}
use Rattle.std.specs.Option.{option_map}
use Rattle.tpl_json.specs.View.{view}
use Rattle.tpl_draft.specs.SeenTasks.{token_of}
use Rattle.tpl_reader.specs.declared.top.Members as declared
use Rattle.tpl_reader.specs.Top.{Members}

abbrev pub members_of : declared.Members → Members
members_of m = record {
  version = m.version;
  inputs = map string_bytes m.inputs.items;
  tokens = map token_of m.tokens.items;
  tasks = map view m.tasks.now;
  claims = map view m.claims.now;
  certificate = map view m.certificate.now;
  journal = m.journal.now;
  start = option_map (λ v. view v.now) m.start;
  ended = option_map (λ v. view v.now) m.ended;
  times = option_map (λ v. v.items) m.times;
}
