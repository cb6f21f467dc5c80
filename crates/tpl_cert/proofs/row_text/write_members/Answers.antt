use Rattle.std.proofs.Common.{◌∙◌, ◌∷◌, ◌++◌, [], List, codes, map, refl}
use Rattle.json.specs.Token.{Token, end_object, key, boolean}
use Rattle.json.specs.Tree.{json_tokens}
use Rattle.serde_json.specs.Written.{outline}
use Rattle.tpl_cert.specs.Written.{texts_data, words_of, name_at}
use Rattle.tpl_cert.proofs.Names.{task_set}
use Rattle.tpl_cert.proofs.Tokens.{and_then}
use Rattle.tpl_cert.proofs.row_text.write_members.Goals as goal

pub returns : goal.returns
returns c =
    let names = c.args.graph.now.names.tasks in
    let row = c.args.row.now in
    let before = rw c.before-2.ensures at c.in_ok-write_set.ensures in
    let chain = rw c.chain.ensures at c.in_ok-write_chain.ensures in
    let ends = rw c.ends.ensures at c.in_ok-write_ends.ensures in
    let past = rw c.past.ensures at c.in_ok-write_set-2.ensures in
    let last = rw c.runs.ensures at c.in_ok-close_row.ensures in
    let before_key : List Token = key (codes "before") ∷ [] in
    let before_tokens = json_tokens (outline (texts_data (map (name_at names) row.before))) in
    let chain_key : List Token = key (codes "chain") ∷ [] in
    let chain_tokens = json_tokens (outline (texts_data (map (name_at names) row.chain))) in
    let ends_key : List Token = key (codes "ends") ∷ [] in
    let ends_tokens = json_tokens (outline (texts_data (words_of row.ends))) in
    let past_key : List Token = key (codes "past") ∷ [] in
    let past_tokens = json_tokens (outline (texts_data (map (name_at names) row.past))) in
    let closing : List Token = key (codes "runs") ∷ boolean row.runs ∷ end_object ∷ [] in
    let at_past = past_tokens ++ closing in
    let at_past_key = past_key ++ at_past in
    let at_ends = ends_tokens ++ at_past_key in
    let at_ends_key = ends_key ++ at_ends in
    let at_chain = chain_tokens ++ at_ends_key in
    let at_chain_key = chain_key ++ at_chain in
    let at_before = before_tokens ++ at_chain_key in
    let end = c.close_row.new.out.tokens in
    let seven = and_then c.key-4.new.self.tokens c.write_set-2.new.out.tokens end past_tokens closing past.1.0.1 last.1 in
    let six = and_then c.write_ends.new.out.tokens c.key-4.new.self.tokens end past_key at_past c.in_ok-key-4.ensures.ok seven in
    let five = and_then c.key-3.new.self.tokens c.write_ends.new.out.tokens end ends_tokens at_past_key ends.1 six in
    let four = and_then c.write_chain.new.out.tokens c.key-3.new.self.tokens end ends_key at_ends c.in_ok-key-3.ensures.ok five in
    let three = and_then c.key-2.new.self.tokens c.write_chain.new.out.tokens end chain_tokens at_ends_key chain.1.1 four in
    let two = and_then c.write_set.new.out.tokens c.key-2.new.self.tokens end chain_key at_chain c.in_ok-key-2.ensures.ok three in
    let one = and_then c.key.new.self.tokens c.write_set.new.out.tokens end before_tokens at_chain_key before.1.0.1 two in (
      rw (before.0, past.0, chain.0) refl,
      (
        (
          last.0 ∙ past.1.0.0 ∙ c.key-4.ensures.room.0 ∙ ends.0 ∙ c.key-3.ensures.room.0 ∙ chain.1.0 ∙ c.key-2.ensures.room.0 ∙ before.1.0.0 ∙ c.key.ensures.room.0,
          and_then c.args.out.now.tokens c.key.new.self.tokens end before_key at_before c.in_ok-key.ensures.ok one,
        ),
        (task_set row.before before.1.1, task_set row.past past.1.1),
      ),
    )
