use Rattle.std.proofs.Common.{◌≡◌, ◌∙◌, ◌∷◌, ◌++◌, [], List, codes, refl}
use Rattle.std.proofs.lemmas.Result.{err_from_is_err_and}
use Rattle.json.specs.Token.{Token, begin_object, key}
use Rattle.json.specs.Tree.{json_tokens, members_tokens}
use Rattle.serde_json.specs.Written.{outline, members_outline}
use Rattle.tpl_trees.specs.Coding.{tokens_in}
use Rattle.tpl_cert.specs.Written.{names_data, row_members}
use Rattle.tpl_cert.proofs.Ids.{unwritten_first, unwritten_second}
use Rattle.tpl_cert.proofs.Names.{tokens_listed}
use Rattle.tpl_cert.proofs.Tokens.{and_then}
use Rattle.tpl_cert.proofs.row_text.write_token_row.Goals as goal

pub returns-in_err-write_tokens : goal.returns-in_err-write_tokens
returns-in_err-write_tokens c =
    let p = err_from_is_err_and c.from_residual-in_err-write_tokens.result c.from_residual-in_err-write_tokens.ensures.1 in
    let row = c.args.row.now in
    let asked : tokens_in c.asked.result ≡ row.asked = tokens_listed row.asked c.asked.result c.sets_law.ensures.0 c.asked.ensures.members in
    rw (p.1, p.2) (unwritten_first c.in_err-write_tokens.field-0.0 _ _ (rw asked at c.in_err-write_tokens.ensures))

pub returns-in_err-write_tokens-2 : goal.returns-in_err-write_tokens-2
returns-in_err-write_tokens-2 c =
    let p = err_from_is_err_and c.from_residual-in_err-write_tokens-2.result c.from_residual-in_err-write_tokens-2.ensures.1 in
    let row = c.args.row.now in
    let asked : tokens_in c.asked.result ≡ row.asked = tokens_listed row.asked c.asked.result c.sets_law.ensures.0 c.asked.ensures.members in
    let asks : tokens_in c.asks.result ≡ row.asks = tokens_listed row.asks c.asks.result c.sets_law.ensures.1 c.asks.ensures.members in
    let first = rw asked at c.in_ok-write_tokens.ensures in
    rw (p.1, p.2) (unwritten_second c.in_err-write_tokens-2.field-0.0 _ _ first.0 (unwritten_first c.in_err-write_tokens-2.field-0.0 _ _ (rw asks at c.in_err-write_tokens-2.ensures)))

pub returns : goal.returns
returns c =
    let n = c.args.graph.now.names in
    let row = c.args.row.now in
    let is_asked : tokens_in c.asked.result ≡ row.asked = tokens_listed row.asked c.asked.result c.sets_law.ensures.0 c.asked.ensures.members in
    let is_asks : tokens_in c.asks.result ≡ row.asks = tokens_listed row.asks c.asks.result c.sets_law.ensures.1 c.asks.ensures.members in
    let first = c.in_ok-open_object.ensures in
    let asked = rw is_asked at c.in_ok-write_tokens.ensures in
    let asks = rw is_asks at c.in_ok-write_tokens-2.ensures in
    let last = rw c.row.ensures at c.in_ok-write_members.ensures in
    let opening : List Token = begin_object ∷ key (codes "asked") ∷ [] in
    let asked_tokens = json_tokens (outline (names_data n.tokens row.asked)) in
    let asks_key : List Token = key (codes "asks") ∷ [] in
    let asks_tokens = json_tokens (outline (names_data n.tokens row.asks)) in
    let members = members_tokens (members_outline (row_members n row.row)) in
    let at_asks = asks_tokens ++ members in
    let at_asks_key = asks_key ++ at_asks in
    let at_asked = asked_tokens ++ at_asks_key in
    let end = c.write_members.new.out.tokens in
    let three = and_then c.key.new.self.tokens c.write_tokens-2.new.out.tokens end asks_tokens members asks.1.1 last.1.0.1 in
    let two = and_then c.write_tokens.new.out.tokens c.key.new.self.tokens end asks_key at_asks c.in_ok-key.ensures.ok three in
    let one = and_then c.open_object.new.out.tokens c.write_tokens.new.out.tokens end asked_tokens at_asks_key asked.1.1 two in (
      rw (asked.0, asks.0, last.0) refl,
      (
        (
          last.1.0.0 ∙ asks.1.0 ∙ c.key.ensures.room.0 ∙ asked.1.0 ∙ first.0,
          and_then c.args.out.now.tokens c.open_object.new.out.tokens end opening at_asked first.1 one,
        ),
        (c.sets_law.ensures, last.1.1),
      ),
    )
