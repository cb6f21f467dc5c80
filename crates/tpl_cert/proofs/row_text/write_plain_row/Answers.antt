use Rattle.std.proofs.Common.{◌∙◌, ◌∷◌, [], List, refl}
use Rattle.std.proofs.lemmas.Result.{err_from_is_err_and}
use Rattle.json.specs.Token.{Token, begin_object}
use Rattle.json.specs.Tree.{members_tokens}
use Rattle.serde_json.specs.Written.{members_outline}
use Rattle.tpl_cert.specs.Written.{row_members}
use Rattle.tpl_cert.proofs.Tokens.{and_then}
use Rattle.tpl_cert.proofs.row_text.write_plain_row.Goals as goal

pub returns : goal.returns
returns c =
    let row = c.args.row.now in
    let last = rw c.row.ensures at c.in_ok-write_members.ensures in
    let opening : List Token = begin_object ∷ [] in
    let members = members_tokens (members_outline (row_members c.args.graph.now.names row.row)) in (
      rw (c.requires.0, c.requires.1, last.0) refl,
      (
        (
          last.1.0.0 ∙ c.begin_object.ensures.room.0,
          and_then c.args.out.now.tokens c.begin_object.new.self.tokens c.write_members.new.out.tokens opening members c.in_ok-begin_object.ensures.ok last.1.0.1,
        ),
        (c.sets_law.ensures, last.1.1),
      ),
    )
