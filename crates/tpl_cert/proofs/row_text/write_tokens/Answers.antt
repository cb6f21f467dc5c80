use Rattle.std.proofs.Common.{◌∙◌, sym}
use Rattle.std.proofs.lemmas.Result.{err_from_is_err_and}
use Rattle.tpl_paths.specs.TokenSet.{has_token}
use Rattle.tpl_trees.specs.Coding.{tokens_in}
use Rattle.tpl_cert.proofs.Tokens.{closed}
use Rattle.tpl_cert.proofs.TokensWritten.{token_written, token_left_out, token_unwritten, all_tokens_known, all_tokens_written}
use Rattle.tpl_cert.proofs.row_text.write_tokens.Goals as goal
use Rattle.tpl_cert.proofs.row_text.write_tokens.Goals.{then-contains+in_ok-write_token, else-contains}

pub returns-in_err-write_token : goal.returns-in_err-write_token
unfolding tokens_in
returns-in_err-write_token c =
    let p = err_from_is_err_and c.from_residual-in_err-write_token.result c.from_residual-in_err-write_token.ensures.1 in
    rw (p.1, p.2)
    (token_unwritten c.args.graph.now.names.tokens (has_token c.args.set) c.loop-number.number c.begin_array.new.self c.loop-number.out c.in_err-write_token.field-0.0 c.loop-number-test.true (sym c.contains.ensures ∙ c.if-contains.true) c.in_err-write_token.ensures
    c.loop-number.invariant)

pub loop-number-preserved : goal.loop-number-preserved
loop-number-preserved c =
    let names = c.args.graph.now.names.tokens in
    elim c.if-contains.branch [
      | then-contains+in_ok-write_token w ↦
          rw w.out-is
          (token_written names (has_token c.args.set) c.loop-number.number c.begin_array.new.self c.loop-number.out w.write_token.new.out c.loop-number-test.true (sym c.contains.ensures ∙ w.if-contains.true) w.in_ok-write_token.ensures.0 w.in_ok-write_token.ensures.1
          c.loop-number.invariant)
      | else-contains w ↦
          rw w.out-is (token_left_out names (has_token c.args.set) c.loop-number.number c.begin_array.new.self c.loop-number.out c.loop-number-test.true (sym c.contains.ensures ∙ w.if-contains.false) c.loop-number.invariant)
    ]

pub returns : goal.returns
unfolding tokens_in
returns c =
    let names = c.args.graph.now.names.tokens in
    let left = all_tokens_written names (has_token c.args.set) c.loop-number.number c.begin_array.new.self c.loop-number.out c.loop-number-test.false c.loop-number.invariant in (
      all_tokens_known names (has_token c.args.set) c.loop-number.number c.begin_array.new.self c.loop-number.out c.loop-number-test.false c.loop-number.invariant,
      (
        c.end_array.ensures.room.0 ∙ c.loop-number.invariant.before ∙ c.begin_array.ensures.room.0,
        closed c.args.out.now.tokens c.begin_array.new.self.tokens c.loop-number.out.tokens c.end_array.new.self.tokens _ c.in_ok-begin_array.ensures.ok left c.in_ok-end_array.ensures.ok,
      ),
    )
